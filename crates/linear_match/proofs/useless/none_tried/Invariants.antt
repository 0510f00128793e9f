use Rattle.std.proofs.Common.{◌≡◌, false, replicate}
use Rattle.linear_match.proofs.useless.none_tried.Given as goal

abbrev pub invariant-loop : goal.invariant-loop
invariant-loop l = l.tried.items ≡ replicate l.counter false
