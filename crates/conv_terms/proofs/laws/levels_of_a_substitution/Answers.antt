use Rattle.conv_terms.proofs.Bounds.{substituted_levels}
use Rattle.conv_terms.proofs.laws.levels_of_a_substitution.Goals as goal

pub returns : goal.returns
returns c = record { law = substituted_levels }
