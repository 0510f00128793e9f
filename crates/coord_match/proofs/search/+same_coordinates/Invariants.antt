use Rattle.std.proofs.Common.{◌≡◌, take}
use Rattle.coord_match.proofs.search.+same_coordinates.Given as goal

abbrev pub invariant-same_coordinates-loop-i : goal.invariant-same_coordinates-loop-i
invariant-same_coordinates-loop-i l = take l.i l.a ≡ take l.i l.b
