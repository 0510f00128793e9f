use Rattle.isosearch.proofs.DueOne.{due_is_one}
use Rattle.isosearch.proofs.laws.one_outcome.Goals as goal

pub returns : goal.returns
returns c = record {
  law = due_is_one c.files_have_one_outcome.ensures.law c.indexes_have_one_outcome.ensures.law c.queries_have_one_answer.ensures.law
      c.queries_have_one_answer-2.ensures.law c.summaries_are_one.ensures.law;
}
