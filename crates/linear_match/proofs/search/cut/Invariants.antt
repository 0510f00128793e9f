use Rattle.std.proofs.Common.{◌≡◌, ◌≤◌, length, take}
use Rattle.linear_match.proofs.search.cut.Given as goal

abbrev pub invariant-loop-list : goal.invariant-loop-list
invariant-loop-list g l = (l.keep ≤ length l.list) × (take l.keep l.list ≡ take l.keep l.fn.list)

abbrev pub decreases-loop-list : goal.decreases-loop-list
decreases-loop-list g l = length l.list
