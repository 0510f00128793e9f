use Rattle.std.proofs.Common.{◌≡◌, ◌++◌, length, reverse}
use Rattle.iso_normal.proofs.appending.append.Given as goal

abbrev pub invariant-loop-f : goal.invariant-loop-f
invariant-loop-f l = l.to ++ reverse l.left ≡ l.fn.to ++ l.fn.more

abbrev pub decreases-loop-f : goal.decreases-loop-f
decreases-loop-f l = length l.left
