-- The type functions that are names.
use Rattle.std.specs.Prelude.{ℕ, zero, suc, ◌+◌, false, List, [], ◌∷◌}
use Rattle.type_core.specs.declared.ty.Ty.{Ty}
use Rattle.type_core.specs.declared.ty.Ty.TheVariants as ty
use Rattle.type_core.specs.declared.type_fn.TypeFn.{TypeFn}

-- the parameter with this number: the variable without mark
abbrev pub parameter : ℕ → Ty
parameter n = ty.Var (record { n = n; eq = false })

-- so many parameters, numbered from `first`
abbrev pub parameters_from : ℕ → ℕ → List Ty
parameters_from first zero = []
parameters_from first (suc count) = parameter first ∷ parameters_from (first + 1) count

-- the parameters of a type function of this arity, in order
abbrev pub parameters : ℕ → List Ty
parameters arity = parameters_from 0 arity

-- the type function that is a name: the name applied to the parameters in order
abbrev pub name_function : ℕ → ℕ → TypeFn
name_function n arity = record { arity = arity; body = ty.Con (record { 0 = n }) (parameters arity) }
