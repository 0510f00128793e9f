use Rattle.conv_plain.proofs.PlainConverters.{there_and_back}
use Rattle.conv_plain.proofs.laws.moving_there_and_back_undoes_itself.Goals as goal

pub returns : goal.returns
returns c = record { law = there_and_back }
