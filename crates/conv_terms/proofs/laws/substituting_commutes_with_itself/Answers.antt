use Rattle.conv_terms.proofs.Moving.{all_of_substituted}
use Rattle.conv_terms.proofs.laws.substituting_commutes_with_itself.Goals as goal

pub returns : goal.returns
returns c = record { law = λ from to depth terms e t. all_of_substituted from to terms depth e t }
