-- Coordinates that take arguments before their own.
use Rattle.std.proofs.Common.{◌≡◌, List, [], ◌∷◌, ◌++◌, map, length, refl, sym, ap, ap₂, ◌∙◌, append-nil, arith}
use Rattle.std.proofs.lemmas.List.{append_assoc}
use Rattle.type_core.specs.declared.coordinate.Coordinate.{Coordinate}
use Rattle.type_core.specs.declared.coordinate.Coordinate.TheOpen.{Coordinate-F}
use Rattle.type_core.specs.declared.coordinate.Coordinate.TheViews.{out-roll-Coordinate, roll-out-Coordinate}
use Rattle.type_core.specs.declared.ty.VarId.{VarId}
use Rattle.type_core.specs.declared.ty.NameId.{NameId}
use Rattle.type_core.specs.declared.ty.Ty.{Ty}
use Rattle.type_core.specs.declared.ty.Field.{Field}
use Rattle.type_core.specs.declared.ty.Ty.TheVariants as ty
use Rattle.type_core.specs.Coordinates.{arguments_of, atom, coordinate, coordinates, coordinate_count, head_of, taking}
use Rattle.type_core.proofs.Trees.{coordinates_var, coordinates_con, coordinates_rec, coordinates_tup, coordinates_arrow}

pub arguments_made : (arguments : List Coordinate) (head : Ty) → arguments_of (coordinate arguments head) ≡ arguments
arguments_made arguments head = ap (λ (c : Coordinate-F Coordinate). c.arguments) (out-roll-Coordinate _)

pub head_made : (arguments : List Coordinate) (head : Ty) → head_of (coordinate arguments head) ≡ head
head_made arguments head = ap (λ (c : Coordinate-F Coordinate). c.head) (out-roll-Coordinate _)

-- no arguments
taking_none : (c : Coordinate) → taking [] c ≡ c
taking_none c = roll-out-Coordinate c

pub all_taking_none : (cs : List Coordinate) → map (taking []) cs ≡ cs
all_taking_none [] = refl
all_taking_none (c ∷ cs) = ap₂ ◌∷◌ (taking_none c) (all_taking_none cs)

-- two lists of them
taking_twice : (xs ys : List Coordinate) (c : Coordinate) → taking (xs ++ ys) c ≡ taking xs (taking ys c)
taking_twice xs ys c = ap₂ coordinate
    (append_assoc xs ys (arguments_of c) ∙ ap (λ zs. xs ++ zs) (sym (arguments_made (ys ++ arguments_of c) (head_of c))))
    (sym (head_made (ys ++ arguments_of c) (head_of c)))

pub all_taking_twice : (xs ys cs : List Coordinate) → map (taking (xs ++ ys)) cs ≡ map (taking xs) (map (taking ys) cs)
all_taking_twice xs ys [] = refl
all_taking_twice xs ys (c ∷ cs) = ap₂ ◌∷◌ (taking_twice xs ys c) (all_taking_twice xs ys cs)

pub taking_atom : (xs : List Coordinate) (t : Ty) → map (taking xs) (atom t) ≡ coordinate xs t ∷ []
taking_atom xs t = ap (λ c. c ∷ []) (ap₂ coordinate (ap (λ ys. xs ++ ys) (arguments_made [] t) ∙ append-nil xs) (head_made [] t))

pub taking_var : (xs : List Coordinate) (v : VarId) → map (taking xs) (coordinates (ty.Var v)) ≡ coordinate xs (ty.Var v) ∷ []
taking_var xs v = ap (map (taking xs)) (coordinates_var v) ∙ taking_atom xs (ty.Var v)

pub taking_con : (xs : List Coordinate) (name : NameId) (ts : List Ty) → map (taking xs) (coordinates (ty.Con name ts)) ≡ coordinate xs (ty.Con name ts) ∷ []
taking_con xs name ts = ap (map (taking xs)) (coordinates_con name ts) ∙ taking_atom xs (ty.Con name ts)

pub taking_rec : (xs : List Coordinate) (fields : List Field) → map (taking xs) (coordinates (ty.Rec fields)) ≡ coordinate xs (ty.Rec fields) ∷ []
taking_rec xs fields = ap (map (taking xs)) (coordinates_rec fields) ∙ taking_atom xs (ty.Rec fields)

pub taking_arrow : (xs : List Coordinate) (a b : Ty) → map (taking xs) (coordinates (ty.Arrow a b)) ≡ map (taking (xs ++ coordinates a)) (coordinates b)
taking_arrow xs a b = ap (map (taking xs)) (coordinates_arrow a b) ∙ sym (all_taking_twice xs (coordinates a) (coordinates b))

none_counted : (t : Ty) → coordinate_count t ≡ 0 → coordinates t ≡ []
unfolding coordinate_count
none_counted t e = none_of (coordinates t) e
  where
    none_of : (cs : List Coordinate) → length cs ≡ 0 → cs ≡ []
    none_of [] e = refl
    none_of (c ∷ cs) e = absurd (omega (arith, e))

-- an arrow to nothing adds nothing
pub nothing_added : (done xs : List Coordinate) (t a b to : Ty) → t ≡ ty.Arrow a b → to ≡ b → coordinate_count to ≡ 0 → done ≡ done ++ map (taking xs) (coordinates t)
nothing_added done xs t a b to is same e =
    let none : coordinates b ≡ [] = none_counted b (sym (ap coordinate_count same) ∙ e) in
    sym (append-nil done) ∙ ap (λ cs. done ++ cs) (sym (ap (map (taking xs)) (ap coordinates is ∙ coordinates_arrow a b ∙ ap (map (taking (coordinates a))) none)))

pub ruleset nothing_before = (all_taking_none)

pub ruleset taking_steps = (taking_var, taking_con, taking_rec, coordinates_tup, taking_arrow, all_taking_none)
