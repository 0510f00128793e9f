use Rattle.conv_terms.proofs.LongForms.{one_long_form}
use Rattle.conv_terms.proofs.long_form_laws.one_long_form.Goals as goal

pub returns : goal.returns
returns c = record { law = one_long_form }
