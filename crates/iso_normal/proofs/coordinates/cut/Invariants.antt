use Rattle.std.proofs.Common.{◌≡◌, ◌≤◌, length, take}
use Rattle.iso_normal.proofs.coordinates.cut.Given as goal

abbrev pub invariant-loop-list : goal.invariant-loop-list
invariant-loop-list l = (l.keep ≤ length l.list) × (take l.keep l.list ≡ take l.keep l.fn.list)

abbrev pub decreases-loop-list : goal.decreases-loop-list
decreases-loop-list l = length l.list
