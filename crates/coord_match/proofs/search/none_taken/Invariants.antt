use Rattle.std.proofs.Common.{◌≡◌, false, replicate}
use Rattle.coord_match.proofs.search.none_taken.Given as goal

abbrev pub invariant-loop : goal.invariant-loop
invariant-loop l = l.taken.items ≡ replicate l.counter false
