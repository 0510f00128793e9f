use Rattle.std.proofs.Common.{◌≡◌, drop}
use Rattle.conv_terms.specs.deciding.Depths.{are_absent}
use Rattle.conv_terms.proofs.short_normal.+absent.Given as goal

abbrev pub invariant-are_absent-loop-t : goal.invariant-are_absent-loop-t
invariant-are_absent-loop-t l = are_absent l.level (drop l.t-index l.terms) ≡ are_absent l.level l.terms
