use Rattle.std.proofs.Common.{◌≡◌, take, length}
use Rattle.conv_terms.specs.Contraction.{projections}
use Rattle.conv_terms.proofs.short_normal.are_projections.Given as goal

abbrev pub invariant-loop-i : goal.invariant-loop-i
invariant-loop-i l = take l.i l.terms ≡ projections l.e (length l.terms) 1 l.i
