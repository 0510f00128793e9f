use Rattle.std.proofs.Common.{◌≡◌, [], replicate}
use Rattle.linear_match.proofs.search.no_factors.Given as goal

abbrev pub invariant-loop : goal.invariant-loop
invariant-loop l = l.pieces.items ≡ replicate l.counter []
