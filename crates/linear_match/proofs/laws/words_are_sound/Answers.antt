use Rattle.linear_match.proofs.Matches.{split_agrees}
use Rattle.linear_match.proofs.laws.words_are_sound.Goals as goal

pub returns : goal.returns
returns c = record { law = λ by p fs word ms are s o. split_agrees by p are s o }
