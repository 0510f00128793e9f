use Rattle.conv_typing.proofs.Contractions.{contraction_typed, contraction_converts}
use Rattle.conv_typing.proofs.long_form_laws.contractions_keep_types.Goals as goal

pub returns : goal.returns
returns c = record { law = contraction_typed; converts = contraction_converts }
