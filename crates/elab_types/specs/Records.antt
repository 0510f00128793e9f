-- Labels that are new among those of labelled fields.
use Rattle.std.specs.Prelude.{ℕ, Bool, bytes_eq, List}
use Rattle.type_core.specs.declared.ty.Field.{Field}
pub use Rattle.type_core.specs.Records.{all_inserted, in_label_order, inserted, record_of}
use Rattle.elab_types.specs.Finding.{none_of}

-- whether none of the fields has the label
abbrev pub is_new_label : List ℕ → List Field → Bool
is_new_label label fields = none_of (λ field. bytes_eq label field.label) fields
