use Rattle.conv_terms.proofs.Moving.{all_of_shifted}
use Rattle.conv_terms.proofs.laws.substituting_commutes_with_shifting.Goals as goal

pub returns : goal.returns
returns c = record { law = λ from to depth by terms t. all_of_shifted from to terms depth by t }
