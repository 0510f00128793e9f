use Rattle.conv_typing.proofs.Congruence.{all_converts}
use Rattle.conv_typing.proofs.conversion_laws.substituting_all_keeps_conversion.Goals as goal

pub returns : goal.returns
returns c = record { law = all_converts }
