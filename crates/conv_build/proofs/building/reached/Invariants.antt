use Rattle.std.proofs.Common.{◌≡◌, drop}
use Rattle.conv_build.specs.direct.AlongSteps.{reached_along}
use Rattle.conv_build.proofs.building.reached.Given as goal

abbrev pub invariant-loop-step : goal.invariant-loop-step
invariant-loop-step l = reached_along (drop l.step-index l.steps) l.here l.terms.items ≡ reached_along l.steps l.fn.e l.fn.terms.items
