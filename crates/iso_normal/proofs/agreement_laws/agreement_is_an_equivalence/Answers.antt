use Rattle.iso_normal.proofs.Agreeing.{agree_refl, agree_sym, agree_trans}
use Rattle.iso_normal.proofs.agreement_laws.agreement_is_an_equivalence.Goals as goal

pub returns : goal.returns
returns c = record { reflexive = agree_refl; symmetric = λ fs gs. agree_sym; transitive = λ fs gs hs. agree_trans }
