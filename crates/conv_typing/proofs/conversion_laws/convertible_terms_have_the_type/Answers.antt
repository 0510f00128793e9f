use Rattle.conv_typing.proofs.Kept.{converts_typed}
use Rattle.conv_typing.proofs.conversion_laws.convertible_terms_have_the_type.Goals as goal

pub returns : goal.returns
returns c = record { law = λ ctx a t u k. converts_typed k }
