use Rattle.conv_typing.proofs.LongForms.{no_tuple_projected}
use Rattle.conv_typing.proofs.long_form_laws.typed_long_forms_project_from_no_tuple.Goals as goal

pub returns : goal.returns
returns c = record { law = no_tuple_projected }
