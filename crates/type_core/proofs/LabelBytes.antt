-- The bytes of a type's labels, by its outermost form.
use Rattle.std.proofs.Common.{◌≡◌, ℕ, ◌+◌, List, [], ◌∷◌, ◌++◌, map, length, refl, ap, ◌∙◌, arith}
use Rattle.type_core.specs.declared.ty.Field.{Field}
use Rattle.type_core.specs.declared.ty.NameId.{NameId}
use Rattle.type_core.specs.declared.ty.VarId.{VarId}
use Rattle.type_core.specs.declared.ty.Ty.{Ty}
use Rattle.type_core.specs.declared.ty.Ty.TheVariants as ty
use Rattle.type_core.specs.Lists.{concatenated, sum_of}
use Rattle.type_core.specs.Weight.{label_bytes, labels_of}
use Rattle.type_core.proofs.Trees.{labels_arrow, labels_con, labels_rec, labels_tup, labels_var}

abbrev bytes : List (List ℕ) → ℕ
bytes labels = sum_of (map length labels)

bytes_append : (xs ys : List (List ℕ)) → bytes (xs ++ ys) ≡ bytes xs + bytes ys
bytes_append [] ys = omega arith
bytes_append (x ∷ xs) ys = omega (arith, bytes_append xs ys)

bytes_all : (ts : List Ty) → bytes (concatenated (map labels_of ts)) ≡ sum_of (map label_bytes ts)
bytes_all [] = refl
bytes_all (t ∷ ts) = bytes_append (labels_of t) (concatenated (map labels_of ts)) ∙ ap (λ n. bytes (labels_of t) + n) (bytes_all ts)

bytes_fields : (fields : List Field) → bytes (concatenated (map (λ field. field.label ∷ labels_of field.ty) fields)) ≡ sum_of (map (λ field. length field.label + label_bytes field.ty) fields)
bytes_fields [] = refl
bytes_fields (field ∷ fields) =
    bytes_append (field.label ∷ labels_of field.ty) (concatenated (map (λ f. f.label ∷ labels_of f.ty) fields)) ∙ ap (λ n. (length field.label + label_bytes field.ty) + n) (bytes_fields fields)

pub bytes_var : (v : VarId) → label_bytes (ty.Var v) ≡ 0
bytes_var v = ap bytes (labels_var v)

pub bytes_con : (name : NameId) (ts : List Ty) → label_bytes (ty.Con name ts) ≡ sum_of (map label_bytes ts)
bytes_con name ts = ap bytes (labels_con name ts) ∙ bytes_all ts

pub bytes_rec : (fields : List Field) → label_bytes (ty.Rec fields) ≡ sum_of (map (λ field. length field.label + label_bytes field.ty) fields)
bytes_rec fields = ap bytes (labels_rec fields) ∙ bytes_fields fields

pub bytes_tup : (ts : List Ty) → label_bytes (ty.Tup ts) ≡ sum_of (map label_bytes ts)
bytes_tup ts = ap bytes (labels_tup ts) ∙ bytes_all ts

pub bytes_arrow : (a b : Ty) → label_bytes (ty.Arrow a b) ≡ label_bytes a + label_bytes b
bytes_arrow a b = ap bytes (labels_arrow a b) ∙ bytes_append (labels_of a) (labels_of b)

pub ruleset bytes_by_form = (bytes_var, bytes_con, bytes_rec, bytes_tup, bytes_arrow)
