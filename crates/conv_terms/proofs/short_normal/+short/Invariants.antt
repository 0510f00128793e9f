use Rattle.std.proofs.Common.{ℕ, ◌↔◌, drop}
use Rattle.conv_terms.specs.ShortNormal.{AreShortNormal}
use Rattle.conv_terms.specs.deciding.Depths.{IsDepth}
use Rattle.conv_terms.proofs.short_normal.+short.Given as goal

abbrev pub invariant-are_short-loop-t : goal.invariant-are_short-loop-t
invariant-are_short-loop-t l = (n : ℕ) → IsDepth n l.depth → AreShortNormal n (drop l.t-index l.terms) ↔ AreShortNormal n l.terms
