-- Numbers of coordinates and normal sizes, and that the normal size is the sum of the sizes of the coordinates.
use Rattle.std.proofs.Common.{◌≡◌, ℕ, ◌+◌, ◌*◌, List, [], ◌∷◌, ◌++◌, map, length, refl, sym, ap, ap₂, ◌∙◌, arith}
use Rattle.std.proofs.lemmas.List.{length-append, length-map}
use Rattle.std.proofs.Math.Nat.{suc-mul, zero-mul}
use Rattle.type_core.specs.declared.ty.VarId.{VarId}
use Rattle.type_core.specs.declared.ty.NameId.{NameId}
use Rattle.type_core.specs.declared.ty.Ty.{Ty}
use Rattle.type_core.specs.declared.ty.Field.{Field}
use Rattle.type_core.specs.declared.ty.Ty.TheVariants as ty
use Rattle.type_core.specs.declared.coordinate.Coordinate.{Coordinate}
use Rattle.type_core.specs.declared.coordinate.Coordinate.TheFolds.{fold-roll-Coordinate, fold_out-Coordinate}
use Rattle.type_core.specs.Coordinates.{arguments_of, atom, coordinate, coordinates, coordinate_count, coordinate_size, coordinate_size_step, head_of, taking}
use Rattle.type_core.specs.Lists.{concatenated, sum_of}
use Rattle.type_core.specs.NormalSize.{normal_size_of}
use Rattle.type_core.specs.Size.{size_of}
use Rattle.type_core.proofs.Trees.{EachOf, induct_type, coordinates_var, coordinates_con, coordinates_rec, coordinates_tup, coordinates_arrow, normal_size_var, normal_size_con, normal_size_rec, normal_size_tup, normal_size_arrow}

-- how many coordinates each kind of type has
pub count_var : (v : VarId) → coordinate_count (ty.Var v) ≡ 1
unfolding coordinate_count
count_var v = ap length (coordinates_var v)

pub count_con : (name : NameId) (ts : List Ty) → coordinate_count (ty.Con name ts) ≡ 1
unfolding coordinate_count
count_con name ts = ap length (coordinates_con name ts)

pub count_rec : (fields : List Field) → coordinate_count (ty.Rec fields) ≡ 1
unfolding coordinate_count
count_rec fields = ap length (coordinates_rec fields)

count_all : (ts : List Ty) → length (concatenated (map coordinates ts)) ≡ sum_of (map coordinate_count ts)
unfolding coordinate_count
count_all [] = refl
count_all (t ∷ ts) = length-append (coordinates t) (concatenated (map coordinates ts)) ∙ ap (λ n. length (coordinates t) + n) (count_all ts)

pub count_tup : (ts : List Ty) → coordinate_count (ty.Tup ts) ≡ sum_of (map coordinate_count ts)
unfolding coordinate_count
count_tup ts = ap length (coordinates_tup ts) ∙ count_all ts

pub count_arrow : (a b : Ty) → coordinate_count (ty.Arrow a b) ≡ coordinate_count b
unfolding coordinate_count
count_arrow a b = ap length (coordinates_arrow a b) ∙ length-map (coordinates b) (taking (coordinates a))

-- the sizes of coordinates together
abbrev total : List Coordinate → ℕ
total cs = sum_of (map coordinate_size cs)

size_made : (arguments : List Coordinate) (head : Ty) → coordinate_size (coordinate arguments head) ≡ size_of head + total arguments
size_made arguments head = fold-roll-Coordinate ℕ coordinate_size_step _

size_opened : (c : Coordinate) → coordinate_size c ≡ size_of (head_of c) + total (arguments_of c)
size_opened c = fold_out-Coordinate ℕ coordinate_size_step c

total_appended : (cs ds : List Coordinate) → total (cs ++ ds) ≡ total cs + total ds
total_appended [] ds = omega arith
total_appended (c ∷ cs) ds = omega (arith, total_appended cs ds)

total_atom : (t : Ty) → total (atom t) ≡ size_of t
total_atom t = omega (arith, size_made [] t)

size_taking : (first : List Coordinate) (c : Coordinate) → coordinate_size (taking first c) ≡ total first + coordinate_size c
size_taking first c = omega (arith, size_made (first ++ arguments_of c) (head_of c), total_appended first (arguments_of c), size_opened c)

total_taking : (first cs : List Coordinate) → total (map (taking first) cs) ≡ length cs * total first + total cs
total_taking first [] = omega (arith, zero-mul (total first))
total_taking first (c ∷ cs) = omega (arith, size_taking first c, total_taking first cs, suc-mul (length cs) (total first))

-- the normal size is the sum of the sizes of the coordinates
abbrev IsTotal : Ty → Type 0
IsTotal t = normal_size_of t ≡ total (coordinates t)

all_total : (ts : List Ty) → EachOf IsTotal ts → sum_of (map normal_size_of ts) ≡ total (concatenated (map coordinates ts))
all_total [] ihs = refl
all_total (t ∷ ts) ihs = omega (arith, ihs.0, all_total ts ihs.1, total_appended (coordinates t) (concatenated (map coordinates ts)))

counted : (t : Ty) → coordinate_count t ≡ length (coordinates t)
unfolding coordinate_count
counted t = refl

pub normal_size_is_total : (t : Ty) → normal_size_of t ≡ sum_of (map coordinate_size (coordinates t))
normal_size_is_total = induct_type IsTotal
    (λ v. normal_size_var v ∙ sym (total_atom (ty.Var v)) ∙ sym (ap total (coordinates_var v)))
    (λ name ts ihs. normal_size_con name ts ∙ sym (total_atom (ty.Con name ts)) ∙ sym (ap total (coordinates_con name ts)))
    (λ fields ihs. normal_size_rec fields ∙ sym (total_atom (ty.Rec fields)) ∙ sym (ap total (coordinates_rec fields)))
    (λ ts ihs. normal_size_tup ts ∙ all_total ts ihs ∙ sym (ap total (coordinates_tup ts)))
    (λ a b p q. normal_size_arrow a b ∙ ap₂ ◌+◌ (ap₂ ◌*◌ (counted b) p) q ∙ sym (total_taking (coordinates a) (coordinates b)) ∙ sym (ap total (coordinates_arrow a b)))

pub ruleset normal_sizes = (count_var, count_con, count_rec, count_tup, count_arrow, normal_size_var, normal_size_con, normal_size_rec, normal_size_tup, normal_size_arrow)
