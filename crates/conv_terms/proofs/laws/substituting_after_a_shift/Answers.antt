use Rattle.conv_terms.proofs.Moving.{substituted_shifted}
use Rattle.conv_terms.proofs.laws.substituting_after_a_shift.Goals as goal

pub returns : goal.returns
returns c = record { law = λ from by at e t low high. substituted_shifted from 0 e at by t low high }
