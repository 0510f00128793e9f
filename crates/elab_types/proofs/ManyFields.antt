-- The type of fields has more nodes than there are fields.
use Rattle.std.proofs.Common.{◌≡◌, suc, ◌+◌, ◌<◌, ◌≤◌, Bool, true, false, if◌then◌else◌, List, [], ◌∷◌, map, length, ap, ◌∙◌, arith}
use Rattle.std.specs.Ordering.{is_lt}
use Rattle.std.proofs.lemmas.List.{length-map}
use Rattle.type_core.specs.declared.ty.Field.{Field}
use Rattle.type_core.specs.declared.ty.Ty.{Ty}
use Rattle.type_core.specs.declared.ty.Ty.TheVariants as ty
use Rattle.type_core.specs.Labels.{are_tuple_labels, label_order}
use Rattle.type_core.specs.Lists.{sum_of}
use Rattle.type_core.specs.Size.{size_of, field_size}
use Rattle.type_core.proofs.Trees.{induct_type, size_arrow, size_con, size_field, size_rec, size_tup, size_var}
use Rattle.elab_types.specs.Records.{all_inserted, in_label_order, inserted, record_of}

-- ---- a type has a node
has_node : (t : Ty) → 1 ≤ size_of t
has_node = induct_type (λ t. 1 ≤ size_of t)
    (λ v. omega (arith, size_var v))
    (λ name ts each. omega (arith, size_con name ts))
    (λ fields each. omega (arith, size_rec fields))
    (λ ts each. omega (arith, size_tup ts))
    (λ a b p q. omega (arith, size_arrow a b))

each_has : (ts : List Ty) → length ts ≤ sum_of (map size_of ts)
each_has [] = omega arith
each_has (t ∷ ts) = omega (arith, has_node t, each_has ts)

each_field_has : (fields : List Field) → length fields ≤ sum_of (map field_size fields)
each_field_has [] = omega arith
each_field_has (field ∷ fields) = omega (arith, has_node field.ty, size_field field, each_field_has fields)

-- ---- how many fields there are in order
one_more : (before : Bool) (field next : Field) (fields rest : List Field) → length rest ≡ suc (length fields) → length (if before then field ∷ next ∷ fields else next ∷ rest) ≡ suc (suc (length fields))
one_more true field next fields rest e = omega arith
one_more false field next fields rest e = ap suc e

length_inserted : (field : Field) (fields : List Field) → length (inserted field fields) ≡ suc (length fields)
length_inserted field [] = omega arith
length_inserted field (next ∷ fields) = one_more (is_lt (label_order field.label next.label)) field next fields (inserted field fields) (length_inserted field fields)

length_all : (fields sorted : List Field) → length (all_inserted fields sorted) ≡ length fields + length sorted
length_all [] sorted = omega arith
length_all (field ∷ fields) sorted = length_inserted field (all_inserted fields sorted) ∙ omega (arith, length_all fields sorted)

-- ---- the size of their record
chosen_size : (tuple : Bool) (fields : List Field) → length fields < size_of (if tuple then ty.Tup (map (λ f. f.ty) fields) else ty.Rec fields)
chosen_size true fields = omega (arith, size_tup (map (λ f. f.ty) fields), each_has (map (λ f. f.ty) fields), length-map fields (λ (f : Field). f.ty))
chosen_size false fields = omega (arith, size_rec fields, each_field_has fields)

record_size : (fields : List Field) → length fields < size_of (record_of fields)
record_size [] = omega (arith, size_tup [])
record_size (field ∷ fields) = chosen_size (are_tuple_labels (map (λ f. f.label) (field ∷ fields))) (field ∷ fields)

pub fewer_fields : (fields : List Field) → length fields < size_of (record_of (in_label_order fields))
fewer_fields fields = omega (arith, record_size (in_label_order fields), length_all fields [])
