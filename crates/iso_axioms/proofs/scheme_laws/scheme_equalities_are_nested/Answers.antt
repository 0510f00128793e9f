use Rattle.iso_axioms.specs.Theory.{reflexive}
use Rattle.iso_axioms.proofs.Closed.{linear_is_less}
use Rattle.iso_axioms.proofs.scheme_laws.scheme_equalities_are_nested.Goals as goal

pub returns : goal.returns
returns c = record {
  linear = λ a b p e. (e.0, b.body, e.1, reflexive b.body p);
  isomorphic = λ a b e. (e.0, e.1, e.2, linear_is_less e.3);
}
