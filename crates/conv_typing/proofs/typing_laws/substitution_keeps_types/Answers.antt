use Rattle.conv_typing.proofs.Weakening.{substituted_typed}
use Rattle.conv_typing.proofs.typing_laws.substitution_keeps_types.Goals as goal

pub returns : goal.returns
returns c = record { law = substituted_typed }
