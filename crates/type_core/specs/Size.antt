-- The size of a type: how many nodes it has.
use Rattle.std.specs.Prelude.{ℕ, ◌+◌}
use Rattle.type_core.specs.declared.ty.Ty.{Ty}
use Rattle.type_core.specs.declared.ty.Field.{Field}
use Rattle.type_core.specs.declared.ty.Ty.TheOpen.{Ty-F, Field-F, Var, Con, Rec, Tup, Arrow}
use Rattle.type_core.specs.declared.ty.Ty.TheFolds.{fold-Ty, fold-Field}
use Rattle.type_core.specs.Lists.{sum_of}

-- one node, and those of the parts
abbrev pub size_step : Ty-F ℕ ℕ → ℕ
size_step (Var v) = 1
size_step (Con name arguments) = 1 + sum_of arguments
size_step (Rec fields) = 1 + sum_of fields
size_step (Tup components) = 1 + sum_of components
size_step (Arrow from to) = 1 + (from + to)

-- a field is no node of its own
abbrev pub size_field_step : Field-F ℕ ℕ → ℕ
size_field_step field = field.ty

-- how many nodes the type has
abbrev pub size_of : Ty → ℕ
size_of = fold-Ty ℕ ℕ size_step size_field_step

-- how many nodes the field's type has
abbrev pub field_size : Field → ℕ
field_size = fold-Field ℕ ℕ size_step size_field_step
