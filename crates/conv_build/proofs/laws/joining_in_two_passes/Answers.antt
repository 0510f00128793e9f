use Rattle.conv_build.proofs.TwoPasses.{fills}
use Rattle.conv_build.proofs.laws.joining_in_two_passes.Goals as goal

pub returns : goal.returns
returns c = record { law = fills }
