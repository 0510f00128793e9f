use Rattle.conv_typing.proofs.Inversion.{one_type}
use Rattle.conv_typing.proofs.typing_laws.types_are_unique.Goals as goal

pub returns : goal.returns
returns c = record { law = λ ctx t a b k l. one_type k b l }
