use Rattle.conv_typing.proofs.Weakening.{all_typed}
use Rattle.conv_typing.proofs.typing_laws.substituting_all_keeps_types.Goals as goal

pub returns : goal.returns
returns c = record { law = all_typed }
