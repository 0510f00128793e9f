use Rattle.conv_plain.proofs.PlainConverters.{made_inverse}
use Rattle.conv_plain.proofs.plain.redex_form.Goals as goal

pub returns-clause-inverse : goal.returns-clause-inverse
returns-clause-inverse c = made_inverse _ _ _ c.converter.result c.requires.from c.requires.to c.requires.paired c.converter.ensures.value
