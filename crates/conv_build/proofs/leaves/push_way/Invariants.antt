use Rattle.std.proofs.Common.{◌≡◌, ◌++◌, drop}
use Rattle.conv_build.specs.direct.AlongSteps.{way_along}
use Rattle.conv_build.proofs.leaves.push_way.Given as goal

abbrev pub invariant-loop-step : goal.invariant-loop-step
invariant-loop-step l = l.done ++ way_along (drop l.step-index l.steps) l.n ≡ l.fn.done ++ way_along l.steps l.n
