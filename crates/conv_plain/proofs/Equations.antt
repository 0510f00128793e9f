-- The equations of the types of coordinates, and of splitting and joining at each form of type.
use Rattle.std.proofs.Common.{◌≡◌, ℕ, ◌+◌, List, [], ◌∷◌, ◌++◌, map, length, take, drop, refl, sym, ap, ap₂, ◌∙◌, suc}
use Rattle.type_core.specs.declared.ty.VarId.{VarId}
use Rattle.type_core.specs.declared.ty.NameId.{NameId}
use Rattle.type_core.specs.declared.ty.Ty.{Ty}
use Rattle.type_core.specs.declared.ty.Field.{Field}
use Rattle.type_core.specs.declared.ty.Ty.TheVariants as ty
use Rattle.type_core.specs.declared.ty.Ty.TheVariants.{rolls-Var, rolls-Con, rolls-Rec, rolls-Tup, rolls-Arrow}
use Rattle.type_core.specs.declared.ty.Ty.TheFolds.{para-roll-Ty}
use Rattle.type_core.specs.declared.coordinate.Coordinate.{Coordinate}
use Rattle.type_core.specs.declared.coordinate.Coordinate.TheFolds.{fold-roll-Coordinate, fold_out-Coordinate}
use Rattle.type_core.specs.Coordinates.{arguments_of, atom, coordinate, coordinates, head_of, taking}
use Rattle.type_core.specs.Lists.{concatenated}
use Rattle.type_core.proofs.Trees.{coordinates_var, coordinates_con, coordinates_rec, coordinates_tup, coordinates_arrow}
use Rattle.conv_terms.specs.declared.term.Term.{Term}
use Rattle.conv_terms.specs.declared.term.Term.TheVariants as term
use Rattle.conv_terms.specs.Shifting.{shifted}
use Rattle.conv_plain.specs.Functions.{arrows, abstractions, first_of, variables}
use Rattle.conv_plain.specs.CoordinateTypes.{coordinate_type, coordinate_type_step, coordinate_types, types_of}
use Rattle.conv_plain.specs.SplitJoin.{Sides, applied_each, atom_sides, join, join_all, join_each, sides, sides_step, split, split_all, split_each}

-- the types of coordinates
pub type_made : (arguments : List Coordinate) (head : Ty) → coordinate_type (coordinate arguments head) ≡ arrows (types_of arguments) head
unfolding coordinate_type
type_made arguments head = fold-roll-Coordinate Ty coordinate_type_step _

pub type_opened : (c : Coordinate) → coordinate_type c ≡ arrows (types_of (arguments_of c)) (head_of c)
unfolding coordinate_type
type_opened c = fold_out-Coordinate Ty coordinate_type_step c

arrows_append : (as' bs : List Ty) (c : Ty) → arrows (as' ++ bs) c ≡ arrows as' (arrows bs c)
arrows_append [] bs c = refl
arrows_append (a ∷ as') bs c = ap (ty.Arrow a) (arrows_append as' bs c)

types_append : (cs ds : List Coordinate) → types_of (cs ++ ds) ≡ types_of cs ++ types_of ds
types_append [] ds = refl
types_append (c ∷ cs) ds = ap (λ ts. coordinate_type c ∷ ts) (types_append cs ds)

type_taking : (first : List Coordinate) (c : Coordinate) → coordinate_type (taking first c) ≡ arrows (types_of first) (coordinate_type c)
type_taking first c =
    type_made (first ++ arguments_of c) (head_of c) ∙ ap (λ ts. arrows ts (head_of c)) (types_append first (arguments_of c))
    ∙ arrows_append (types_of first) (types_of (arguments_of c)) (head_of c) ∙ ap (arrows (types_of first)) (sym (type_opened c))

types_taking : (first cs : List Coordinate) → types_of (map (taking first) cs) ≡ map (arrows (types_of first)) (types_of cs)
types_taking first [] = refl
types_taking first (c ∷ cs) = ap₂ ◌∷◌ (type_taking first c) (types_taking first cs)

-- the types of the coordinates of a list of types
abbrev pub types_of_all : List Ty → List Ty
types_of_all [] = []
types_of_all (t ∷ ts) = coordinate_types t ++ types_of_all ts

types_concatenated : (ts : List Ty) → types_of (concatenated (map coordinates ts)) ≡ types_of_all ts
types_concatenated [] = refl
types_concatenated (t ∷ ts) = types_append (coordinates t) (concatenated (map coordinates ts)) ∙ ap (λ x. coordinate_types t ++ x) (types_concatenated ts)

types_atom : (t : Ty) → types_of (atom t) ≡ t ∷ []
types_atom t = ap (λ a. a ∷ []) (type_made [] t)

pub types_tup : (ts : List Ty) → coordinate_types (ty.Tup ts) ≡ types_of_all ts
types_tup ts = ap types_of (coordinates_tup ts) ∙ types_concatenated ts

pub types_arrow : (a b : Ty) → coordinate_types (ty.Arrow a b) ≡ map (arrows (coordinate_types a)) (coordinate_types b)
types_arrow a b = ap types_of (coordinates_arrow a b) ∙ types_taking (coordinates a) (coordinates b)

-- splitting and joining
sides_var : (v : VarId) → sides (ty.Var v) ≡ atom_sides
unfolding sides
sides_var v = ap sides (sym (rolls-Var v)) ∙ para-roll-Ty _ _ sides_step _ _

sides_con : (name : NameId) (ts : List Ty) → sides (ty.Con name ts) ≡ atom_sides
unfolding sides
sides_con name ts = ap sides (sym (rolls-Con name ts)) ∙ para-roll-Ty _ _ sides_step _ _

sides_rec : (fields : List Field) → sides (ty.Rec fields) ≡ atom_sides
unfolding sides
sides_rec fields = ap sides (sym (rolls-Rec fields)) ∙ para-roll-Ty _ _ sides_step _ _

abbrev with_sides : Ty → Ty × Sides
with_sides t = (t, sides t)

abbrev tuple_sides : List (Ty × Sides) → Sides
tuple_sides parts = record { split = λ n e. split_each parts n 1 (length parts) e; join = λ n es. term.Tup (join_each parts n es) }

sides_tup : (ts : List Ty) → sides (ty.Tup ts) ≡ tuple_sides (map with_sides ts)
unfolding sides
sides_tup ts = ap sides (sym (rolls-Tup ts)) ∙ para-roll-Ty _ _ sides_step _ _

-- a function applied to the argument that is joined from the last variables
abbrev pub opened : Ty → ℕ → Term → Term
opened a n e = term.App (shifted n (length (coordinate_types a)) e) (join a (n + length (coordinate_types a)) (variables n (length (coordinate_types a))))

abbrev arrow_sides : Ty → Ty → Sides
arrow_sides a b = record {
  split = λ n e. map (abstractions (coordinate_types a)) (split b (n + length (coordinate_types a)) (opened a n e));
  join = λ n es. term.Lam a (join b (n + 1) (applied_each n (split a (n + 1) (term.Var n)) es));
}

sides_arrow : (a b : Ty) → sides (ty.Arrow a b) ≡ arrow_sides a b
unfolding sides
sides_arrow a b = ap sides (sym (rolls-Arrow a b)) ∙ para-roll-Ty _ _ sides_step _ _

split_each_all : (ts : List Ty) (n i count : ℕ) (e : Term) → split_each (map with_sides ts) n i count e ≡ split_all ts n i count e
split_each_all [] n i count e = refl
split_each_all (t ∷ ts) n i count e = ap (λ x. split t n (term.Proj i count e) ++ x) (split_each_all ts n (i + 1) count e)

join_each_all : (ts : List Ty) (n : ℕ) (es : List Term) → join_each (map with_sides ts) n es ≡ join_all ts n es
join_each_all [] n es = refl
join_each_all (t ∷ ts) n es = ap (λ x. join t n (take (length (coordinate_types t)) es) ∷ x) (join_each_all ts n (drop (length (coordinate_types t)) es))

length_with : (ts : List Ty) → length (map with_sides ts) ≡ length ts
length_with [] = refl
length_with (t ∷ ts) = ap suc (length_with ts)

-- what is asked of an atom: it is its own one coordinate
pub record IsAtom (t : Ty) : Type 0 where
  pub coordinates_are : coordinates t ≡ atom t
  pub sides_are : sides t ≡ atom_sides

pub atom_var : (v : VarId) → IsAtom (ty.Var v)
atom_var v = record { coordinates_are = coordinates_var v; sides_are = sides_var v }

pub atom_con : (name : NameId) (ts : List Ty) → IsAtom (ty.Con name ts)
atom_con name ts = record { coordinates_are = coordinates_con name ts; sides_are = sides_con name ts }

pub atom_rec : (fields : List Field) → IsAtom (ty.Rec fields)
atom_rec fields = record { coordinates_are = coordinates_rec fields; sides_are = sides_rec fields }

module _ (t : Ty) (is : IsAtom t) where
  pub types_at_atom : coordinate_types t ≡ t ∷ []
  types_at_atom = ap types_of is.coordinates_are ∙ types_atom t

  pub split_atom : (n : ℕ) (e : Term) → split t n e ≡ e ∷ []
  split_atom n e = ap (λ s. s.split n e) is.sides_are

  pub join_atom : (n : ℕ) (es : List Term) → join t n es ≡ first_of es
  join_atom n es = ap (λ s. s.join n es) is.sides_are

pub split_tup : (ts : List Ty) (n : ℕ) (e : Term) → split (ty.Tup ts) n e ≡ split_all ts n 1 (length ts) e
split_tup ts n e = ap (λ s. s.split n e) (sides_tup ts) ∙ ap (λ count. split_each (map with_sides ts) n 1 count e) (length_with ts) ∙ split_each_all ts n 1 (length ts) e

pub join_tup : (ts : List Ty) (n : ℕ) (es : List Term) → join (ty.Tup ts) n es ≡ term.Tup (join_all ts n es)
join_tup ts n es = ap (λ s. s.join n es) (sides_tup ts) ∙ ap term.Tup (join_each_all ts n es)

pub split_arrow : (a b : Ty) (n : ℕ) (e : Term) → split (ty.Arrow a b) n e ≡ map (abstractions (coordinate_types a)) (split b (n + length (coordinate_types a)) (opened a n e))
split_arrow a b n e = ap (λ s. s.split n e) (sides_arrow a b)

pub join_arrow : (a b : Ty) (n : ℕ) (es : List Term) → join (ty.Arrow a b) n es ≡ term.Lam a (join b (n + 1) (applied_each n (split a (n + 1) (term.Var n)) es))
join_arrow a b n es = ap (λ s. s.join n es) (sides_arrow a b)

pub split_var : (v : VarId) (n : ℕ) (e : Term) → split (ty.Var v) n e ≡ e ∷ []
split_var v = split_atom (ty.Var v) (atom_var v)

pub split_con : (name : NameId) (ts : List Ty) (n : ℕ) (e : Term) → split (ty.Con name ts) n e ≡ e ∷ []
split_con name ts = split_atom (ty.Con name ts) (atom_con name ts)

pub split_rec : (fields : List Field) (n : ℕ) (e : Term) → split (ty.Rec fields) n e ≡ e ∷ []
split_rec fields = split_atom (ty.Rec fields) (atom_rec fields)

pub join_var : (v : VarId) (n : ℕ) (es : List Term) → join (ty.Var v) n es ≡ first_of es
join_var v = join_atom (ty.Var v) (atom_var v)

pub join_con : (name : NameId) (ts : List Ty) (n : ℕ) (es : List Term) → join (ty.Con name ts) n es ≡ first_of es
join_con name ts = join_atom (ty.Con name ts) (atom_con name ts)

pub join_rec : (fields : List Field) (n : ℕ) (es : List Term) → join (ty.Rec fields) n es ≡ first_of es
join_rec fields = join_atom (ty.Rec fields) (atom_rec fields)

pub ruleset sides_at = (split_var, split_con, split_rec, split_tup, split_arrow, join_var, join_con, join_rec, join_tup, join_arrow)
