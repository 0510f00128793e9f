use Rattle.std.proofs.Common.{◌≡◌, take}
use Rattle.conv_build.proofs.steps.push_copy.Given as goal

abbrev pub invariant-loop-step : goal.invariant-loop-step
invariant-loop-step l = l.copies ≡ take l.step-index l.steps
