use Rattle.std.proofs.Common.{◌≡◌, ◌++◌}
use Rattle.conv_plain.specs.Functions.{variables}
use Rattle.conv_plain.proofs.functions.variables.Given as goal

abbrev pub invariant-more : goal.invariant-more
invariant-more l = l.done ++ variables l.next l.left ≡ variables l.n l.count

abbrev pub decreases-more : goal.decreases-more
decreases-more l = l.left
