use Rattle.iso_axioms.specs.Theory.{reflexive, symmetric, transitive}
use Rattle.iso_axioms.proofs.laws.theories_are_equivalences.Goals as goal

pub returns : goal.returns
returns c = record {
  reflexive = λ a p. (reflexive a p, reflexive a p);
  symmetric = λ a b. symmetric;
  linear_symmetric = λ a b. symmetric;
  transitive = λ a b c. transitive;
  linear_transitive = λ a b c. transitive;
}
