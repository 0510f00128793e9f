use Rattle.conv_typing.proofs.LongForms.{long_form_typed, long_form_converts}
use Rattle.conv_typing.proofs.long_form_laws.long_forms_keep_types.Goals as goal

pub returns : goal.returns
returns c = record { law = long_form_typed; converts = long_form_converts }
