-- The two ways to read a type as a list of factors: its factors, and its coordinates.
use Rattle.std.proofs.Common.{◌≡◌, List, [], ◌∷◌, ◌++◌, map, refl, sym, ap, ap₂, ◌∙◌, append-nil}
use Rattle.std.proofs.lemmas.List.{append_assoc, map-append}
use Rattle.type_core.specs.declared.ty.VarId.{VarId}
use Rattle.type_core.specs.declared.ty.NameId.{NameId}
use Rattle.type_core.specs.declared.ty.Ty.{Ty}
use Rattle.type_core.specs.declared.ty.Field.{Field}
use Rattle.type_core.specs.declared.ty.Ty.TheVariants as ty
use Rattle.type_core.specs.declared.ty.Ty.TheVariants.{rolls-Var, rolls-Con, rolls-Rec, rolls-Tup, rolls-Arrow}
use Rattle.type_core.specs.declared.ty.Ty.TheFolds.{para-roll-Ty}
use Rattle.type_core.specs.declared.coordinate.Coordinate.{Coordinate}
use Rattle.type_core.specs.declared.coordinate.Coordinate.TheOpen.{Coordinate-F}
use Rattle.type_core.specs.declared.coordinate.Coordinate.TheFolds.{fold-Coordinate, fold-roll-Coordinate, fold_out-Coordinate}
use Rattle.type_core.specs.Coordinates.{arguments_of, atom, coordinate, coordinates, head_of, taking}
use Rattle.type_core.specs.Lists.{concatenated}
use Rattle.type_core.proofs.Trees.{coordinates_var, coordinates_con, coordinates_rec, coordinates_tup, coordinates_arrow}
use Rattle.iso_axioms.specs.Axioms.{◌⇒◌, ◌⊗◌, unit}
use Rattle.iso_normal.specs.declared.factor.Factor.{Factor}
use Rattle.iso_normal.specs.declared.factor.Factor.TheVariants as factor
use Rattle.iso_normal.specs.declared.factor.Factor.TheVariants.{outs-Atom, outs-Arr}
use Rattle.iso_normal.specs.declared.factor.Factor.TheOpen.{Factor-F, Atom, Arr}
use Rattle.iso_normal.specs.declared.factor.Factor.TheViews.{out-Factor}
use Rattle.iso_normal.specs.Factors.{arrow_to, factors, factors_of_arrow, factors_step}

-- what a reading of types owes: atoms are themselves, tuples are read by their components, arrows by their sides
pub record Reads (read : Ty → List Factor) (arrow : List Factor → List Factor → List Factor) : Type 0 where
  pub of_var : (v : VarId) → read (ty.Var v) ≡ factor.Atom (ty.Var v) ∷ []
  pub of_con : (name : NameId) (ts : List Ty) → read (ty.Con name ts) ≡ factor.Atom (ty.Con name ts) ∷ []
  pub of_rec : (fields : List Field) → read (ty.Rec fields) ≡ factor.Atom (ty.Rec fields) ∷ []
  pub of_tup : (ts : List Ty) → read (ty.Tup ts) ≡ concatenated (map read ts)
  pub of_arrow : (a b : Ty) → read (a ⇒ b) ≡ arrow (read a) (read b)

-- the parts of a list, each beside what is defined of it
firsts : {A B : Type 0} (f : A → B) (xs : List A) → map (λ (p : A × B). p.0) (map (λ x. (x, f x)) xs) ≡ xs
firsts f [] = refl
firsts f (x ∷ xs) = ap (λ ys. x ∷ ys) (firsts f xs)

seconds : {A B : Type 0} (f : A → B) (xs : List A) → map (λ (p : A × B). p.1) (map (λ x. (x, f x)) xs) ≡ map f xs
seconds f [] = refl
seconds f (x ∷ xs) = ap (λ ys. f x ∷ ys) (seconds f xs)

-- factors
pub factors_var : (v : VarId) → factors (ty.Var v) ≡ factor.Atom (ty.Var v) ∷ []
unfolding factors
factors_var v = ap factors (sym (rolls-Var v)) ∙ para-roll-Ty _ _ factors_step _ _

pub factors_con : (name : NameId) (ts : List Ty) → factors (ty.Con name ts) ≡ factor.Atom (ty.Con name ts) ∷ []
unfolding factors
factors_con name ts = ap factors (sym (rolls-Con name ts)) ∙ para-roll-Ty _ _ factors_step _ _ ∙ ap (λ us. factor.Atom (ty.Con name us) ∷ []) (firsts factors ts)

pub factors_rec : (fields : List Field) → factors (ty.Rec fields) ≡ factor.Atom (ty.Rec fields) ∷ []
unfolding factors
factors_rec fields = ap factors (sym (rolls-Rec fields)) ∙ para-roll-Ty _ _ factors_step _ _ ∙ ap (λ us. factor.Atom (ty.Rec us) ∷ []) (firsts (λ field. tt) fields)

pub factors_tup : (ts : List Ty) → factors (ty.Tup ts) ≡ concatenated (map factors ts)
unfolding factors
factors_tup ts = ap factors (sym (rolls-Tup ts)) ∙ para-roll-Ty _ _ factors_step _ _ ∙ ap concatenated (seconds factors ts)

pub factors_arrow : (a b : Ty) → factors (a ⇒ b) ≡ factors_of_arrow (factors a) (factors b)
unfolding factors
factors_arrow a b = ap factors (sym (rolls-Arrow a b)) ∙ para-roll-Ty _ _ factors_step _ _

pub ruleset factors_at = (factors_var, factors_con, factors_rec, factors_tup, factors_arrow)

pub reads_factors : Reads factors factors_of_arrow
reads_factors = record { of_var = factors_var; of_con = factors_con; of_rec = factors_rec; of_tup = factors_tup; of_arrow = factors_arrow }

-- the arrow to one factor: the factor itself, where there are no arguments
abbrev pub behind : List Factor → Factor → Factor
behind [] g = g
behind (f ∷ fs) g = arrow_to (f ∷ fs) (out-Factor g)

-- an arrow to each
abbrev pub to_each : List Factor → List Factor → List Factor
to_each ps fs = map (behind ps) fs

pub arrow_to_append : (ps qs : List Factor) (x : Factor-F Factor) → arrow_to (ps ++ qs) x ≡ arrow_to ps (out-Factor (arrow_to qs x))
arrow_to_append ps qs (Atom t) = ap (arrow_to ps) (sym (outs-Arr qs _))
arrow_to_append ps qs (Arr own results) = ap (λ xs. factor.Arr xs results) (append_assoc ps qs own) ∙ ap (arrow_to ps) (sym (outs-Arr (qs ++ own) results))

pub behind_append : (ps qs : List Factor) (f : Factor) → behind (ps ++ qs) f ≡ behind ps (behind qs f)
behind_append [] qs f = refl
behind_append (p ∷ ps) [] f = ap (λ xs. arrow_to xs (out-Factor f)) (append-nil (p ∷ ps))
behind_append (p ∷ ps) (q ∷ qs) f = arrow_to_append (p ∷ ps) (q ∷ qs) (out-Factor f)

-- a coordinate as a factor: the arrow to its head
abbrev pub factor_step : Coordinate-F Factor → Factor
factor_step c = behind c.arguments (factor.Atom c.head)

abbrev pub as_factor : Coordinate → Factor
as_factor = fold-Coordinate Factor factor_step

pub as_factor_is : (c : Coordinate) → as_factor c ≡ behind (map as_factor (arguments_of c)) (factor.Atom (head_of c))
as_factor_is c = fold_out-Coordinate Factor factor_step c

as_factor_of : (arguments : List Coordinate) (head : Ty) → as_factor (coordinate arguments head) ≡ behind (map as_factor arguments) (factor.Atom head)
as_factor_of arguments head = fold-roll-Coordinate Factor factor_step _

taking_as_factor : (cs : List Coordinate) (c : Coordinate) → as_factor (taking cs c) ≡ behind (map as_factor cs) (as_factor c)
taking_as_factor cs c = as_factor_of (cs ++ arguments_of c) (head_of c) ∙ ap (λ fs. behind fs (factor.Atom (head_of c))) (map-append as_factor cs (arguments_of c))
    ∙ behind_append (map as_factor cs) (map as_factor (arguments_of c)) (factor.Atom (head_of c)) ∙ ap (behind (map as_factor cs)) (sym (as_factor_is c))

all_taking : (cs ds : List Coordinate) → map as_factor (map (taking cs) ds) ≡ to_each (map as_factor cs) (map as_factor ds)
all_taking cs [] = refl
all_taking cs (d ∷ ds) = ap₂ ◌∷◌ (taking_as_factor cs d) (all_taking cs ds)

-- the coordinates of a type, as factors
abbrev pub coordinate_factors : Ty → List Factor
coordinate_factors t = map as_factor (coordinates t)

atom_as_factor : (t : Ty) → map as_factor (atom t) ≡ factor.Atom t ∷ []
atom_as_factor t = ap (λ f. f ∷ []) (as_factor_of [] t)

all_as_factors : (ts : List Ty) → map as_factor (concatenated (map coordinates ts)) ≡ concatenated (map coordinate_factors ts)
all_as_factors [] = refl
all_as_factors (t ∷ ts) = map-append as_factor (coordinates t) (concatenated (map coordinates ts)) ∙ ap (λ fs. coordinate_factors t ++ fs) (all_as_factors ts)

pub reads_coordinates : Reads coordinate_factors to_each
reads_coordinates = record {
  of_var = λ v. ap (map as_factor) (coordinates_var v) ∙ atom_as_factor (ty.Var v);
  of_con = λ name ts. ap (map as_factor) (coordinates_con name ts) ∙ atom_as_factor (ty.Con name ts);
  of_rec = λ fields. ap (map as_factor) (coordinates_rec fields) ∙ atom_as_factor (ty.Rec fields);
  of_tup = λ ts. ap (map as_factor) (coordinates_tup ts) ∙ all_as_factors ts;
  of_arrow = λ a b. ap (map as_factor) (coordinates_arrow a b) ∙ all_taking (coordinates a) (coordinates b);
}

-- tuples of none and of two
module _ (read : Ty → List Factor) (arrow : List Factor → List Factor → List Factor) (R : Reads read arrow) where
  pub of_unit : read unit ≡ []
  of_unit = R.of_tup []

  pub of_pair : (a b : Ty) → read (a ⊗ b) ≡ read a ++ read b
  of_pair a b = R.of_tup (a ∷ b ∷ []) ∙ ap (λ fs. read a ++ fs) (append-nil (read b))
