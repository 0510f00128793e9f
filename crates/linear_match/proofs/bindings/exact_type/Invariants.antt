use Rattle.std.proofs.Common.{◌≡◌, drop}
use Rattle.linear_match.specs.Meetings.{first_type}
use Rattle.linear_match.specs.search.Bindings.{meetings_of}
use Rattle.linear_match.proofs.bindings.exact_type.Given as goal

abbrev pub invariant-loop-one : goal.invariant-loop-one
invariant-loop-one l = first_type l.n (meetings_of (drop l.one-index l.met)) ≡ first_type l.n (meetings_of l.met)
