use Rattle.type_core.specs.Substitution.{field_substituted, substituted}
use Rattle.iso_axioms.proofs.Replaced.{iso_theory_kept, linear_theory_kept, substitution_replaces}
use Rattle.iso_axioms.proofs.laws.substitution_keeps_theories.Goals as goal

pub returns : goal.returns
returns c = record {
  isomorphic = λ by a b p. iso_theory_kept (substituted by) (field_substituted by) (substitution_replaces by p);
  linear = λ by a b p. linear_theory_kept (substituted by) (field_substituted by) (substitution_replaces by p);
}
