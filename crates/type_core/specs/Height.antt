-- The height of a type: how many nodes the longest way down from its root has.
use Rattle.std.specs.Prelude.{ℕ, ◌+◌, max}
use Rattle.type_core.specs.declared.ty.Ty.{Ty}
use Rattle.type_core.specs.declared.ty.Field.{Field}
use Rattle.type_core.specs.declared.ty.Ty.TheOpen.{Ty-F, Field-F, Var, Con, Rec, Tup, Arrow}
use Rattle.type_core.specs.declared.ty.Ty.TheFolds.{fold-Ty, fold-Field}
use Rattle.type_core.specs.Lists.{greatest_of}

-- one more than the greatest height of a part; a leaf has no part
abbrev pub height_step : Ty-F ℕ ℕ → ℕ
height_step (Var v) = 1
height_step (Con name arguments) = 1 + greatest_of arguments
height_step (Rec fields) = 1 + greatest_of fields
height_step (Tup components) = 1 + greatest_of components
height_step (Arrow from to) = 1 + max from to

-- a field is as high as its type
abbrev pub height_field_step : Field-F ℕ ℕ → ℕ
height_field_step field = field.ty

-- the height of the type
abbrev pub height_of : Ty → ℕ
height_of = fold-Ty ℕ ℕ height_step height_field_step

-- the height of the field's type
abbrev pub field_height : Field → ℕ
field_height = fold-Field ℕ ℕ height_step height_field_step
