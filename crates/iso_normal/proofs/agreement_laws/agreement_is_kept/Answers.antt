use Rattle.iso_normal.proofs.Agreeing.{agree_append, agree_arrow, agree_comm}
use Rattle.iso_normal.proofs.agreement_laws.agreement_is_kept.Goals as goal

pub returns : goal.returns
returns c = record { either_order = agree_comm; joined = λ fs gs hs ks. agree_append; arrow = λ fs gs hs ks. agree_arrow }
