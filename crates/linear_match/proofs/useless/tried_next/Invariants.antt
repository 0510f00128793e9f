use Rattle.std.proofs.Common.{◌≡◌, length}
use Rattle.linear_match.specs.search.Cutting.{ArePassedOn}
use Rattle.linear_match.proofs.useless.tried_next.Given as goal

abbrev pub invariant-loop-l : goal.invariant-loop-l
invariant-loop-l l = record {
  long : length l.next.items ≡ l.l;
  passed : ArePassedOn l.dealing.factors.now l.at l.letter l.tried l.next.items;
}
