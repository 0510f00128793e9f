use Rattle.linear_match.proofs.Complete.{found}
use Rattle.linear_match.proofs.laws.words_are_complete.Goals as goal

pub returns : goal.returns
returns c = record { law = λ by p fs a. let m = found by p fs a in (m.word, m.meetings, m.split, m.obeys) }
