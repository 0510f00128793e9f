use Rattle.search_core.proofs.OneAnswer.{one_answer}
use Rattle.search_core.proofs.laws.queries_have_one_answer.Goals as goal

pub returns : goal.returns
returns c = record { law = one_answer }
