use Rattle.conv_typing.proofs.Congruence.{shifted_converts}
use Rattle.conv_typing.proofs.conversion_laws.shifting_keeps_conversion.Goals as goal

pub returns : goal.returns
returns c = record { law = shifted_converts }
