-- Realizations, and types with the realized names replaced.
use Rattle.std.specs.Prelude.{◌==◌, if◌then◌else◌, List, [], ◌∷◌}
use Rattle.type_core.specs.declared.ty.Ty.{Ty}
use Rattle.type_core.specs.declared.ty.Ty.TheVariants as ty
use Rattle.type_core.specs.declared.ty.Field.{Field}
use Rattle.type_core.specs.declared.ty.Ty.TheOpen.{Ty-F, Field-F, Var, Con, Rec, Tup, Arrow}
use Rattle.type_core.specs.declared.ty.Ty.TheFolds.{fold-Ty, fold-Field}
use Rattle.type_core.specs.declared.type_fn.TypeFn.{TypeFn}
use Rattle.type_core.specs.TypeFunctions.{applied}
use Rattle.elab_env.specs.declared.realization.Realization.{Realization}

abbrev pub replace_step : Realization → Ty-F Ty Field → Ty
replace_step r (Var v) = ty.Var v
replace_step r (Con name arguments) = if name.0 == r.name.0 then applied r.fun arguments else ty.Con name arguments
replace_step r (Rec fields) = ty.Rec fields
replace_step r (Tup components) = ty.Tup components
replace_step r (Arrow from to) = ty.Arrow from to

abbrev pub replace_field_step : Field-F Ty Field → Field
replace_field_step field = record { label = field.label; ty = field.ty }

-- the type with the realized name replaced throughout, each time by its type function applied to the arguments
abbrev pub replaced : Realization → Ty → Ty
replaced r = fold-Ty Ty Field (replace_step r) replace_field_step

-- the field with the realized name replaced throughout its type
abbrev pub field_replaced : Realization → Field → Field
field_replaced r = fold-Field Ty Field (replace_step r) replace_field_step

-- the type after all these realizations, one after the other
abbrev pub resolved : List Realization → Ty → Ty
resolved [] t = t
resolved (r ∷ rs) t = resolved rs (replaced r t)

-- the field after all these realizations
abbrev pub field_resolved : List Realization → Field → Field
field_resolved rs field = record { label = field.label; ty = resolved rs field.ty }

-- the type function after all these realizations
abbrev pub function_resolved : List Realization → TypeFn → TypeFn
function_resolved rs f = record { arity = f.arity; body = resolved rs f.body }
