use Rattle.std.proofs.Common.{arith}
use Rattle.type_core.proofs.Renamed.{variables_bounded}
use Rattle.type_core.proofs.tests.closed.Goals as goal

pub close-requires : goal.close-requires
close-requires c = record { fits = omega (arith, variables_bounded c.args.t.now, c.size.ensures.value) }
