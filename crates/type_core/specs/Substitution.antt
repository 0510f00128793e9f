-- Types with other types in place of their variables.
use Rattle.std.specs.Prelude.{ℕ, ◌&&◌, Bool, true, if◌then◌else◌, IsTrue, List, Option, Some, None, nat_lt, slice_get}
use Rattle.type_core.specs.declared.ty.VarId.{VarId}
use Rattle.type_core.specs.declared.ty.Ty.{Ty}
use Rattle.type_core.specs.declared.ty.Ty.TheVariants as ty
use Rattle.type_core.specs.declared.ty.Field.{Field}
use Rattle.type_core.specs.declared.ty.Ty.TheOpen.{Ty-F, Field-F, Var, Con, Rec, Tup, Arrow}
use Rattle.type_core.specs.declared.ty.Ty.TheFolds.{fold-Ty, fold-Field}
use Rattle.type_core.specs.Lists.{all_true}

-- whether a variable's number is below n, and whether it may have the mark where it has it
abbrev pub allows : ℕ → Bool → VarId → Bool
allows n marks v = nat_lt v.n n && (if v.eq then marks else true)

abbrev pub each_step : (VarId → Bool) → Ty-F Bool Bool → Bool
each_step is (Var v) = is v
each_step is (Con name arguments) = all_true arguments
each_step is (Rec fields) = all_true fields
each_step is (Tup components) = all_true components
each_step is (Arrow from to) = from && to

abbrev pub each_field_step : Field-F Bool Bool → Bool
each_field_step field = field.ty

-- whether this is so of each variable that occurs in the type
abbrev pub each_variable : (VarId → Bool) → Ty → Bool
each_variable is = fold-Ty Bool Bool (each_step is) each_field_step

-- whether this is so of each variable that occurs in the field's type
abbrev pub each_field_variable : (VarId → Bool) → Field → Bool
each_field_variable is = fold-Field Bool Bool (each_step is) each_field_step

-- each variable of the type has a number below n, whatever its mark
abbrev pub VariablesBelow : ℕ → Ty → Type 0
VariablesBelow n t = IsTrue (each_variable (allows n true) t)

-- the type that there is, and the variable itself where there is none
abbrev pub or_variable : VarId → Option Ty → Ty
or_variable v None = ty.Var v
or_variable v (Some t) = t

abbrev pub substitute_step : List Ty → Ty-F Ty Field → Ty
substitute_step by (Var v) = or_variable v (slice_get by v.n)
substitute_step by (Con name arguments) = ty.Con name arguments
substitute_step by (Rec fields) = ty.Rec fields
substitute_step by (Tup components) = ty.Tup components
substitute_step by (Arrow from to) = ty.Arrow from to

abbrev pub substitute_field_step : Field-F Ty Field → Field
substitute_field_step field = record { label = field.label; ty = field.ty }

-- the type with the type of number n in place of each variable of number n
abbrev pub substituted : List Ty → Ty → Ty
substituted by = fold-Ty Ty Field (substitute_step by) substitute_field_step

-- the field with types in place of the variables of its type
abbrev pub field_substituted : List Ty → Field → Field
field_substituted by = fold-Field Ty Field (substitute_step by) substitute_field_step
