use Rattle.conv_typing.proofs.Congruence.{both_substituted}
use Rattle.conv_typing.proofs.conversion_laws.substitution_keeps_conversion.Goals as goal

pub returns : goal.returns
returns c = record { law = both_substituted }
