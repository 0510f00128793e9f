use Rattle.iso_normal.proofs.WordsTell.{either_not_after, not_after_both, not_after_itself, one_not_after}
use Rattle.iso_normal.proofs.word_laws.words_are_totally_ordered.Goals as goal

pub returns : goal.returns
returns c = record { reflexive = not_after_itself; antisymmetric = λ v w. either_not_after; transitive = λ u v w. not_after_both; total = one_not_after }
