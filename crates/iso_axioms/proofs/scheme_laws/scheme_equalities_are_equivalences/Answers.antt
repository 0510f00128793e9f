use Rattle.type_core.specs.Renaming.{field_renamed, renamed}
use Rattle.iso_axioms.specs.Axioms.{IsoAxiom, LinearAxiom}
use Rattle.iso_axioms.specs.Theory.{Closure, reflexive, symmetric, transitive}
use Rattle.iso_axioms.proofs.Replaced.{iso_theory_kept, linear_theory_kept, renaming_replaces}
use Rattle.iso_axioms.proofs.SchemeEqualities.{are_equivalence, names_equivalence}
use Rattle.iso_axioms.proofs.scheme_laws.scheme_equalities_are_equivalences.Goals as goal

pub returns : goal.returns
returns c = record {
  up_to_names = names_equivalence;
  linear = are_equivalence (Closure LinearAxiom) (λ a b. symmetric) (λ a b c. transitive)
      (λ r a b. linear_theory_kept (renamed r) (field_renamed r) (renaming_replaces r)) reflexive;
  isomorphic = are_equivalence (Closure IsoAxiom) (λ a b. symmetric) (λ a b c. transitive)
      (λ r a b. iso_theory_kept (renamed r) (field_renamed r) (renaming_replaces r)) reflexive;
}
