use Rattle.iso_axioms.specs.Axioms.{IsoAxiom, LinearAxiom}
use Rattle.iso_axioms.proofs.Closed.{relates_types}
use Rattle.iso_axioms.proofs.laws.theories_relate_types.Goals as goal

pub returns : goal.returns
returns c = record { isomorphic = λ a b. relates_types IsoAxiom; linear = λ a b. relates_types LinearAxiom }
