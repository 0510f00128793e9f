use Rattle.elab_realizing.proofs.SameFunctions.{same_by_parts}
use Rattle.elab_realizing.proofs.sharing.is_same_function.Goals as goal

pub returns-then-f-g : goal.returns-then-f-g
returns-then-f-g c = record { value = same_by_parts c.args.f.now c.args.g.now c.same.result c.if-f-g.true c.same.ensures.value.0 c.same.ensures.value.1 }
