use Rattle.std.proofs.Common.{◌≡◌}
use Rattle.linear_match.specs.Meetings.{bindings}
use Rattle.linear_match.specs.search.Bindings.{meetings_of}
use Rattle.linear_match.proofs.bindings.bindings.Given as goal

abbrev pub invariant-loop-n : goal.invariant-loop-n
invariant-loop-n l = l.by ≡ bindings l.n (meetings_of l.met)
