use Rattle.iso_normal.proofs.WordsTell.{word_length, word_tells}
use Rattle.iso_normal.proofs.word_laws.words_tell_trees.Goals as goal

pub returns : goal.returns
returns c = record { long = λ c p. word_length; one = λ c p q. word_tells }
