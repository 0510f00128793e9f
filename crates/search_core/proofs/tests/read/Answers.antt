use Rattle.std.proofs.Common.{arith}
use Rattle.type_core.proofs.Renamed.{variables_bounded}
use Rattle.search_core.proofs.tests.read.Goals as goal

pub close-requires : goal.close-requires
close-requires c = record { fits = omega (arith, variables_bounded c.top-t.result, c.size.ensures.value, c.if-size-gt1000.false) }
