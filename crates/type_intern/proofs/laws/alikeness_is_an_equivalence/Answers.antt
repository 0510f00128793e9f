use Rattle.type_intern.specs.Erasure.{erase}
use Rattle.type_intern.proofs.Alikeness.{are_exchanged, are_refl, are_sym, are_trans}
use Rattle.type_intern.proofs.Reducing.{all_alike_seen}
use Rattle.type_intern.proofs.laws.alikeness_is_an_equivalence.Goals as goal

pub returns : goal.returns
returns c = record {
  reflexive = are_refl;
  symmetric = λ seen cs ds a. are_sym seen a;
  transitive = λ seen cs ds es a b. are_trans seen a b;
  exchanged = are_exchanged;
  erased = λ cs ds a. all_alike_seen erase a;
}
