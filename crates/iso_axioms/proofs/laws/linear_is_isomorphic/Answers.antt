use Rattle.iso_axioms.proofs.Closed.{linear_is_less}
use Rattle.iso_axioms.proofs.laws.linear_is_isomorphic.Goals as goal

pub returns : goal.returns
returns c = record { law = λ a b. linear_is_less }
