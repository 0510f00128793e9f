use Rattle.conv_typing.proofs.Ends.{popped_front}
use Rattle.conv_typing.proofs.typing.leave.Goals as goal

pub returns : goal.returns
returns c = record { left = λ front a e. popped_front _ _ front a c.pop.result e c.pop.ensures.popped c.pop.ensures.none }
