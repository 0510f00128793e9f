use Rattle.conv_terms.proofs.Contractions.{contraction_of, one_contraction}
use Rattle.conv_terms.proofs.long_form_laws.one_contraction.Goals as goal

pub returns : goal.returns
returns c = record { exists = contraction_of; law = one_contraction }
