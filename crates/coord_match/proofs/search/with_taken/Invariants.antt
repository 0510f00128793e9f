use Rattle.std.proofs.Common.{◌≡◌, take}
use Rattle.coord_match.proofs.search.with_taken.Given as goal

abbrev pub invariant-loop-mark : goal.invariant-loop-mark
invariant-loop-mark l = l.marks.items ≡ take l.mark-index l.taken
