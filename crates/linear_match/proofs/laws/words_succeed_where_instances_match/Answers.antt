use Rattle.linear_match.proofs.Matches.{some_word, success_matches}
use Rattle.linear_match.proofs.laws.words_succeed_where_instances_match.Goals as goal

pub returns : goal.returns
returns c = record {
  sound = λ names pattern subject word ms is p q s. success_matches is p q s;
  complete = λ names pattern subject by is m. some_word is m;
}
