use Rattle.conv_terms.proofs.Moving.{shifted_all}
use Rattle.conv_terms.proofs.laws.shifting_is_substituting.Goals as goal

pub returns : goal.returns
returns c = record { law = shifted_all }
