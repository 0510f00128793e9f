use Rattle.std.proofs.Common.{arith}
use Rattle.type_core.proofs.Renamed.{variables_bounded}
use Rattle.linear_match.proofs.tests.read_scheme.Goals as goal

pub close-requires : goal.close-requires
close-requires c = record { fits = omega (arith, variables_bounded c.in_ok-t.t, c.size.ensures.value, c.if-size-gt1000.false) }
