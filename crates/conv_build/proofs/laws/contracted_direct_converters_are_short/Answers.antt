use Rattle.conv_build.proofs.DirectConverters.{contracted_back_is_short, contracted_is_short}
use Rattle.conv_build.proofs.laws.contracted_direct_converters_are_short.Goals as goal

pub returns : goal.returns
returns c = record {
  to = λ a b p to ka kb k. contracted_is_short a b p ka kb k to;
  from = λ a b p from ka kb k. contracted_back_is_short a b p ka kb k from;
}
