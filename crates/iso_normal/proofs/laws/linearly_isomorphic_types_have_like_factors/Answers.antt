use Rattle.iso_normal.proofs.Sound.{linearly_isomorphic_agree}
use Rattle.iso_normal.proofs.Complete.{agree_linearly_isomorphic}
use Rattle.iso_normal.proofs.laws.linearly_isomorphic_types_have_like_factors.Goals as goal

pub returns : goal.returns
returns c = record { law = λ a b p q. (linearly_isomorphic_agree, agree_linearly_isomorphic a b p q) }
