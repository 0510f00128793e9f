use Rattle.conv_plain.proofs.Inverting.{moved_by_the_inverse}
use Rattle.conv_plain.proofs.laws.moving_back_is_moving_along_the_inverse.Goals as goal

pub returns : goal.returns
returns c = record { law = λ p c d n es k l. moved_by_the_inverse k n es l }
