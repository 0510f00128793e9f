use Rattle.type_core.specs.Renaming.{field_renamed, renamed}
use Rattle.iso_axioms.proofs.Replaced.{iso_theory_kept, linear_theory_kept, renaming_replaces}
use Rattle.iso_axioms.proofs.laws.renaming_keeps_theories.Goals as goal

pub returns : goal.returns
returns c = record {
  isomorphic = λ r a b. iso_theory_kept (renamed r) (field_renamed r) (renaming_replaces r);
  linear = λ r a b. linear_theory_kept (renamed r) (field_renamed r) (renaming_replaces r);
}
