use Rattle.isosearch.proofs.Answered.{query_found, query_refused}
use Rattle.isosearch.proofs.answering.find.Goals as goal

pub returns-in_ok-report-in-Ok-clause-answer : goal.returns-in_ok-report-in-Ok-clause-answer
returns-in_ok-report-in-Ok-clause-answer c = query_found _ _ _ _ _ _ c.in-Ok.ensures.outcome c.in_ok-report-in-Ok.ensures.hits

pub returns-in-Err-Refused-clause-answer : goal.returns-in-Err-Refused-clause-answer
returns-in-Err-Refused-clause-answer c =
    query_refused _ _ _ _ _ _ _ (rw c.in-Err-Refused.field-0-is (rw c.in-Err-Refused.field-0-is at c.in-Err-Refused.ensures.outcome))
    (rw c.as_bytes.ensures.value at c.position.ensures.line) (rw c.as_bytes.ensures.value at c.position.ensures.column)
