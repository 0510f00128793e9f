use Rattle.std.proofs.Common.{false, arith}
use Rattle.type_core.proofs.Closed.{one_more_in_order}
use Rattle.type_core.proofs.closing.are_in_order.Goals as goal

pub loop-i-preserved : goal.loop-i-preserved
loop-i-preserved c =
    one_more_in_order c.args.met.now c.loop-i.i (record { n = 0; eq = false }) (omega (arith, c.loop-i-test.true)) (omega (arith, c.if-met-i.false)) c.loop-i.invariant
