use Rattle.iso_axioms.proofs.SchemeEqualities.{in_identity, of_identity}
use Rattle.iso_axioms.proofs.scheme_laws.identity_is_equality_up_to_names.Goals as goal

pub returns : goal.returns
returns c = record { law = λ a b. (of_identity a b, in_identity a b) }
