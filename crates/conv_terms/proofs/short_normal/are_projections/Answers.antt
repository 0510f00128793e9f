use Rattle.conv_terms.proofs.Projections.{one_more, one_other}
use Rattle.conv_terms.proofs.short_normal.are_projections.Goals as goal

pub returns-then-not-is_projection : goal.returns-then-not-is_projection
returns-then-not-is_projection c = record { value = one_other _ _ _ _ _ c.loop-i-test.true c.index-terms-i.is c.if-not-is_projection.true c.is_projection.ensures.value }

pub loop-i-preserved : goal.loop-i-preserved
loop-i-preserved c = one_more _ _ _ _ _ c.loop-i-test.true c.index-terms-i.is c.if-not-is_projection.false c.is_projection.ensures.value c.loop-i.invariant
