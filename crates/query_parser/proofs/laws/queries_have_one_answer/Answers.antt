use Rattle.query_parser.proofs.OneAnswer.{one_answer}
use Rattle.query_parser.proofs.laws.queries_have_one_answer.Goals as goal

pub returns : goal.returns
returns c = record {
  law = one_answer (record { one_list = c.one_list.ensures.law; no_refusal = c.no_refusal.ensures.law; one_refusal = c.one_refusal.ensures.law }) (c.one_tree.ensures.law 0);
}
