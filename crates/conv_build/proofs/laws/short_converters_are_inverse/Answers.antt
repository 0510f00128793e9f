use Rattle.conv_build.proofs.DirectConverters.{one_short, short_exists, short_inverse}
use Rattle.conv_build.proofs.laws.short_converters_are_inverse.Goals as goal

pub returns : goal.returns
returns c = record { exists = short_exists; one = one_short; inverse = short_inverse }
