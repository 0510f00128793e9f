-- The unit type is a type over all names, without variables, and mentions no name.
use Rattle.std.proofs.Common.{ℕ, false, List, [], ap, ◌∙◌}
use Rattle.type_core.specs.declared.ty.Ty.TheVariants as ty
use Rattle.type_core.specs.declared.names.TypeName.{TypeName}
use Rattle.type_core.specs.Substitution.{allows}
use Rattle.type_core.specs.TypeFunctions.{IsTypeFn}
use Rattle.type_core.specs.Types.{IsTypeOver}
use Rattle.type_core.proofs.Trees.{each_variable_tup}
use Rattle.type_core.proofs.TypeTests.{is_over_tup, is_type_tup}
use Rattle.elab_env.specs.declared.realization.Realization.{Realization}
use Rattle.elab_env.specs.Avoids.{Avoids, avoids}
use Rattle.elab_env.specs.Realizations.{resolved}
use Rattle.elab_env.proofs.Equations.{avoids_tup}
use Rattle.elab_env.proofs.Resolved.{resolved_tup}

pub unit_is_function : (arity : ℕ) → IsTypeFn (record { arity = arity; body = ty.Tup [] })
unit_is_function arity = each_variable_tup (allows arity false) []

pub unit_is_over : (names : List TypeName) → IsTypeOver names (ty.Tup [])
unit_is_over names = record { is_type = is_type_tup []; over = is_over_tup names [] }

pub unit_avoids : (n : ℕ) (rs : List Realization) → Avoids n (resolved rs (ty.Tup []))
unit_avoids n rs = ap (avoids n) (resolved_tup rs []) ∙ avoids_tup n []
