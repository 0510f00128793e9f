use Rattle.linear_match.proofs.Likeness.{UnlikeBefore}
use Rattle.linear_match.proofs.useless.is_like_none.Given as goal

abbrev pub invariant-loop-k : goal.invariant-loop-k
invariant-loop-k l = UnlikeBefore l.fs l.at l.gs l.from l.k
