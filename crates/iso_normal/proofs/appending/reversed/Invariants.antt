use Rattle.std.proofs.Common.{◌≡◌, ◌++◌, length, reverse}
use Rattle.iso_normal.proofs.appending.reversed.Given as goal

abbrev pub invariant-loop-f : goal.invariant-loop-f
invariant-loop-f l = l.left ++ reverse l.done ≡ l.fn.fs

abbrev pub decreases-loop-f : goal.decreases-loop-f
decreases-loop-f l = length l.left
