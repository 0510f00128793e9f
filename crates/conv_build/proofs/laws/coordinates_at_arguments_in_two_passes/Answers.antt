use Rattle.conv_build.proofs.TwoPasses.{reaches}
use Rattle.conv_build.proofs.laws.coordinates_at_arguments_in_two_passes.Goals as goal

pub returns : goal.returns
returns c = record { law = reaches }
