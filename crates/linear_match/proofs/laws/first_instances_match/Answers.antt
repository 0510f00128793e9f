use Rattle.linear_match.proofs.OneFirst.{first_matches, one_first}
use Rattle.linear_match.proofs.laws.first_instances_match.Goals as goal

pub returns : goal.returns
returns c = record {
  matches = λ names pattern subject word by body is p q f. first_matches is p q f;
  one = λ names pattern subject v w by to a b f g. one_first f g;
}
