use Rattle.std.proofs.Common.{◌≡◌, take}
use Rattle.linear_match.proofs.cutting.+same_factor.Given as goal

abbrev pub invariant-same_factors-loop-i : goal.invariant-same_factors-loop-i
invariant-same_factors-loop-i l = take l.i l.a ≡ take l.i l.b
