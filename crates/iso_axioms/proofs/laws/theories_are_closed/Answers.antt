use Rattle.iso_axioms.specs.Axioms.{IsoAxiom, LinearAxiom}
use Rattle.iso_axioms.specs.Theory.{in_component}
use Rattle.iso_axioms.proofs.Closed.{in_arrow}
use Rattle.iso_axioms.proofs.laws.theories_are_closed.Goals as goal

pub returns : goal.returns
returns c = record {
  arrow = λ a b c d. in_arrow IsoAxiom;
  linear_arrow = λ a b c d. in_arrow LinearAxiom;
  component = λ before after a b. in_component before after;
  linear_component = λ before after a b. in_component before after;
}
