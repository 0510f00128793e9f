use Rattle.conv_terms.proofs.Bounds.{shifted_levels}
use Rattle.conv_terms.proofs.laws.levels_of_a_shift.Goals as goal

pub returns : goal.returns
returns c = record { law = shifted_levels }
