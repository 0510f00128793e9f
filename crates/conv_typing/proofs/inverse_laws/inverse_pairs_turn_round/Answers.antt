use Rattle.conv_typing.proofs.Identities.{turned_round}
use Rattle.conv_typing.proofs.inverse_laws.inverse_pairs_turn_round.Goals as goal

pub returns : goal.returns
returns c = record { law = turned_round }
