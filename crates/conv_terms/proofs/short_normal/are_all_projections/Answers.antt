use Rattle.std.proofs.Common.{arith, sym, true≢false}
use Rattle.conv_terms.proofs.Projections.{too_few, all_answer}
use Rattle.conv_terms.proofs.short_normal.are_all_projections.Goals as goal

pub returns-then-terms-lt-FEWEST : goal.returns-then-terms-lt-FEWEST
returns-then-terms-lt-FEWEST c = record { value = (λ h. absurd (true≢false (sym h)), λ all. absurd (too_few _ c.if-terms-lt-FEWEST.true all)) }

pub returns-in-Proj : goal.returns-in-Proj
returns-in-Proj c = record { value = all_answer _ _ _ _ _ _ _ (omega (arith, c.if-terms-lt-FEWEST.false)) c.index-terms-0.is c.in-Proj.is c.get.ensures.value c.are_projections.ensures.value }
