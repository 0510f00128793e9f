use Rattle.conv_plain.proofs.PlainConverters.{plain_inverse}
use Rattle.conv_plain.proofs.laws.plain_converters_are_inverse.Goals as goal

pub returns : goal.returns
returns c = record { law = plain_inverse }
