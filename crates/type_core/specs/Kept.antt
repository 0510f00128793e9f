-- What is kept where nothing comes in its stead.
use Rattle.std.specs.Prelude.{Option, Some, None}
use Rattle.type_core.specs.declared.ty.Field.{Field}
use Rattle.type_core.specs.declared.ty.Ty.{Ty}

-- what comes in a's stead, and a itself where nothing does
abbrev pub or_kept : {A : Type 0} → A → Option A → A
or_kept a None = a
or_kept a (Some b) = b

-- the field, with what comes in the stead of its type
abbrev pub field_kept : Field → Option Ty → Field
field_kept field changed = record { label = field.label; ty = or_kept field.ty changed }
