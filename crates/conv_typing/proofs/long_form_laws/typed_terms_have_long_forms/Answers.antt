use Rattle.conv_typing.proofs.Existence.{long_form_of}
use Rattle.conv_typing.proofs.long_form_laws.typed_terms_have_long_forms.Goals as goal

pub returns : goal.returns
returns c = record { law = long_form_of }
