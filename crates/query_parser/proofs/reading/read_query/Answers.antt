use Rattle.query_parser.specs.Queries.{Asks}
use Rattle.query_parser.proofs.Refused.{exactly}
use Rattle.query_parser.proofs.reading.read_query.Goals as goal

pub returns-clause-exact : goal.returns-clause-exact
returns-clause-exact c =
    exactly (Asks c.args.lib.now c.args.text.now) (c.queries_have_one_answer.ensures.law c.args.lib.now c.args.text.now) _ (rw c.as_bytes.ensures.value at c.read_bytes.ensures.outcome)
