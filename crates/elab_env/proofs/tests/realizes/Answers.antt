use Rattle.std.proofs.Common.{sym, subst}
use Rattle.type_core.specs.declared.ty.Ty.TheVariants as ty
use Rattle.type_core.specs.Types.{IsTypeOver}
use Rattle.elab_env.specs.Avoids.{Avoids}
use Rattle.elab_env.specs.Realizations.{resolved}
use Rattle.elab_env.proofs.Units.{unit_avoids, unit_is_over}
use Rattle.elab_env.proofs.tests.realizes.Goals as goal

pub realize-requires-clause-body : goal.realize-requires-clause-body
realize-requires-clause-body c = subst (λ ts. IsTypeOver c.args.table.now.names (ty.Tup ts)) (sym c.empty.ensures.empty) (unit_is_over _)

pub realize-requires-clause-other : goal.realize-requires-clause-other
realize-requires-clause-other c = subst (λ ts. Avoids c.args.n.0 (resolved c.args.table.now.realizations (ty.Tup ts))) (sym c.empty.ensures.empty) (unit_avoids c.args.n.0 c.args.table.now.realizations)
