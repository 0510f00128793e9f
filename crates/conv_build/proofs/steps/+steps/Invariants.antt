use Rattle.std.proofs.Common.{◌≡◌, ◌++◌, drop, length}
use Rattle.conv_build.specs.direct.Steps.{steps_of_all}
use Rattle.conv_build.proofs.steps.+steps.Given as goal

abbrev pub invariant-push_steps_of_all-loop-part : goal.invariant-push_steps_of_all-loop-part
invariant-push_steps_of_all-loop-part l =
    (l.before ≡ l.fn.before)
    × (l.all ++ steps_of_all l.fn.before (drop l.part-index l.parts) l.number (length l.parts) ≡ l.fn.all ++ steps_of_all l.fn.before l.parts 1 (length l.parts))
