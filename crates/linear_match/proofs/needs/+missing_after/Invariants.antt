use Rattle.std.proofs.Common.{◌≡◌, ◌-◌, drop}
use Rattle.linear_match.specs.search.Needs.{held}
use Rattle.linear_match.proofs.needs.+missing_after.Given as goal

abbrev pub invariant-missing_after_all-loop-f : goal.invariant-missing_after_all-loop-f
invariant-missing_after_all-loop-f l = l.left - held l.head (drop l.f-index l.fs) ≡ l.missing - held l.head l.fs
