use Rattle.std.proofs.Common.{◌≡◌, drop}
use Rattle.linear_match.specs.search.Bindings.{has_mark, meetings_of}
use Rattle.linear_match.proofs.bindings.wants_equality.Given as goal

abbrev pub invariant-loop-one : goal.invariant-loop-one
invariant-loop-one l = has_mark l.n (meetings_of (drop l.one-index l.met)) ≡ has_mark l.n (meetings_of l.met)
