use Rattle.conv_terms.proofs.LongForms.{no_beta_redex, no_projection}
use Rattle.conv_terms.proofs.long_form_laws.long_forms_have_no_redex.Goals as goal

pub returns : goal.returns
returns c = record { beta = no_beta_redex; projection = no_projection }
