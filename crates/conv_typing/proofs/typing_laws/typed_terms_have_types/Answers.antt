use Rattle.conv_typing.proofs.TypesAlone.{has_type_is_type}
use Rattle.conv_typing.proofs.typing_laws.typed_terms_have_types.Goals as goal

pub returns : goal.returns
returns c = record { law = λ ctx t a k. has_type_is_type k }
