use Rattle.conv_terms.proofs.Moving.{shifted_twice}
use Rattle.conv_terms.proofs.laws.shifting_twice.Goals as goal

pub returns : goal.returns
returns c = record { law = shifted_twice }
