use Rattle.iso_normal.proofs.Sound.{arrow_curried}
use Rattle.iso_normal.proofs.agreement_laws.factors_are_curried.Goals as goal

pub returns : goal.returns
returns c = record { law = arrow_curried }
