use Rattle.conv_terms.proofs.Moving.{substituted_one}
use Rattle.conv_terms.proofs.laws.substituting_for_one.Goals as goal

pub returns : goal.returns
returns c = record { law = substituted_one }
