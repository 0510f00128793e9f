use Rattle.conv_typing.proofs.Weakening.{shifted_typed}
use Rattle.conv_typing.proofs.typing_laws.shifting_keeps_types.Goals as goal

pub returns : goal.returns
returns c = record { law = shifted_typed }
