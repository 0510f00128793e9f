use Rattle.conv_typing.proofs.Identities.{identities_inverse}
use Rattle.conv_typing.proofs.inverse_laws.identities_are_inverse.Goals as goal

pub returns : goal.returns
returns c = record { law = identities_inverse }
