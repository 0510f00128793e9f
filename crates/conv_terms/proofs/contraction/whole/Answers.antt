use Rattle.conv_terms.proofs.Projections.{whole_is}
use Rattle.conv_terms.proofs.contraction.whole.Goals as goal

pub returns-in-Some : goal.returns-in-Some
returns-in-Some c = record { value = whole_is _ _ _ _ c.requires.projections c.in-Some.ensures.popped c.projected_from.ensures.value }
