use Rattle.std.proofs.Common.{refl}
use Rattle.linear_match.proofs.Prefixes.{no_prefix, told_once}
use Rattle.linear_match.proofs.laws.words_tell_meetings.Goals as goal

pub returns : goal.returns
returns c = record {
  law = λ p fs word ms ns a b. told_once a b refl;
  prefix = λ p fs word more ms ns a b. no_prefix more b a refl;
}
