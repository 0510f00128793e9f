use Rattle.conv_build.proofs.DirectConverters.{direct_back_is_long, direct_is_long, direct_turned}
use Rattle.conv_build.proofs.laws.direct_converters_are_long_forms.Goals as goal

pub returns : goal.returns
returns c = record { to = direct_is_long; from = direct_back_is_long; back = direct_turned }
