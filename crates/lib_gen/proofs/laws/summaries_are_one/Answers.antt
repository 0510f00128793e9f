use Rattle.lib_gen.proofs.OneSummary.{one_summary}
use Rattle.lib_gen.proofs.laws.summaries_are_one.Goals as goal

pub returns : goal.returns
returns c = record { law = one_summary c.files_have_one_outcome.ensures.law c.queries_have_one_answer.ensures.law }
