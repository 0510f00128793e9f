use Rattle.std.proofs.Common.{Err, ap, ◌∙◌, arith}
use Rattle.elab_types.proofs.Readings.{no_tokens}
use Rattle.query_parser.specs.Queries.{long, queries}
use Rattle.query_parser.specs.Views.{flaw_of}
use Rattle.query_parser.proofs.Refused.{query_read, refused_within, told}
use Rattle.query_parser.proofs.reading.read_bytes.Goals as goal

pub returns-then-bytes-clause-outcome : goal.returns-then-bytes-clause-outcome
returns-then-bytes-clause-outcome c = long (omega arith)

pub returns-in-Ok-clause-outcome : goal.returns-in-Ok-clause-outcome
returns-in-Ok-clause-outcome c = query_read _ _ _ (omega arith) c.query_of.ensures.outcome

pub returns-in-Err-clause-outcome : goal.returns-in-Err-clause-outcome
returns-in-Err-clause-outcome c =
    query_read _ _ (Err _) (omega arith) (no_tokens (queries c.args.lib.now) _ c.in-Err.refusal _ _ c.in-Err.ensures.refusal c.no_tokens.ensures.value (ap flaw_of c.from.ensures ∙ told _))

pub returns-in-Err-clause-within : goal.returns-in-Err-clause-within
returns-in-Err-clause-within c = rw c.from.ensures (refused_within _ _ (omega arith) c.no_tokens.ensures.within)
