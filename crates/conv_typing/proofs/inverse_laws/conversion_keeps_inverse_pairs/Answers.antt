use Rattle.conv_typing.proofs.InversePairs.{inverse_pair_converted}
use Rattle.conv_typing.proofs.inverse_laws.conversion_keeps_inverse_pairs.Goals as goal

pub returns : goal.returns
returns c = record { law = inverse_pair_converted }
