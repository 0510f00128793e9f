-- Types in which no variable has a given number.
use Rattle.std.specs.Prelude.{ℕ, ◌==◌, Bool, not}
use Rattle.type_core.specs.declared.ty.VarId.{VarId}
use Rattle.type_core.specs.declared.ty.Ty.{Ty}
use Rattle.type_core.specs.declared.ty.Field.{Field}
use Rattle.type_core.specs.Substitution.{each_field_variable, each_variable}

-- whether the variable has another number
abbrev pub is_other : ℕ → VarId → Bool
is_other n v = not (v.n == n)

-- whether no variable with this number stands in the type
abbrev pub lacks : ℕ → Ty → Bool
lacks n = each_variable (is_other n)

-- whether no variable with this number stands in the field's type
abbrev pub field_lacks : ℕ → Field → Bool
field_lacks n = each_field_variable (is_other n)
