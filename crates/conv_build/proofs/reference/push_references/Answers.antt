use Rattle.conv_build.proofs.References.{next_pushed}
use Rattle.conv_build.proofs.reference.push_references.Goals as goal

pub loop-place-preserved : goal.loop-place-preserved
loop-place-preserved c = next_pushed _ _ _ _ _ _ _ _ c.loop-place-test.true c.in_ok-reference_along.ensures.value c.in_ok-push.ensures.pushed c.loop-place.invariant
