-- The type of labelled fields.
use Rattle.std.specs.Prelude.{if◌then◌else◌, List, [], ◌∷◌, map}
use Rattle.std.specs.Ordering.{is_lt}
use Rattle.type_core.specs.declared.ty.Field.{Field}
use Rattle.type_core.specs.declared.ty.Ty.{Ty}
use Rattle.type_core.specs.declared.ty.Ty.TheVariants as ty
use Rattle.type_core.specs.Labels.{label_order, are_tuple_labels}

-- fields in label order with one more, which stands before the first whose label comes after its own
abbrev pub inserted : Field → List Field → List Field
inserted field [] = field ∷ []
inserted field (next ∷ fields) = if is_lt (label_order field.label next.label) then field ∷ next ∷ fields else next ∷ inserted field fields

-- fields in label order with more of them
abbrev pub all_inserted : List Field → List Field → List Field
all_inserted [] sorted = sorted
all_inserted (field ∷ fields) sorted = inserted field (all_inserted fields sorted)

-- the fields in label order
abbrev pub in_label_order : List Field → List Field
in_label_order fields = all_inserted fields []

-- the type of fields in label order: without fields unit, with the labels 1 to n, n at least 2, a tuple, else a record
abbrev pub record_of : List Field → Ty
record_of [] = ty.Tup []
record_of (field ∷ fields) =
    if are_tuple_labels (map (λ f. f.label) (field ∷ fields)) then ty.Tup (map (λ f. f.ty) (field ∷ fields)) else ty.Rec (field ∷ fields)
