use Rattle.sig_base.proofs.DottedParts.{dot_here, no_dot, no_dot_yet}
use Rattle.sig_base.proofs.identifiers.first_dot.Goals as goal

pub returns-then-b-eq46 : goal.returns-then-b-eq46
returns-then-b-eq46 c = record { value = (c.loop-i-test.true, dot_here c.args.text.now c.loop-i.i c.loop-i-test.true c.if-b-eq46.true c.loop-i.invariant) }

pub loop-i-preserved : goal.loop-i-preserved
loop-i-preserved c = no_dot_yet c.args.text.now c.loop-i.i c.loop-i-test.true c.if-b-eq46.false c.loop-i.invariant

pub returns : goal.returns
returns c = record { value = no_dot c.args.text.now c.loop-i.i c.loop-i-test.false c.loop-i.invariant }
