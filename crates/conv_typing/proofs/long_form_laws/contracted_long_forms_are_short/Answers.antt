use Rattle.conv_typing.proofs.ShortForms.{contracted_short}
use Rattle.conv_typing.proofs.long_form_laws.contracted_long_forms_are_short.Goals as goal

pub returns : goal.returns
returns c = record { law = contracted_short }
