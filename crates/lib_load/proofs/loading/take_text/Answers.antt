use Rattle.lib_load.proofs.FileTaken.{text_accepted, text_refused}
use Rattle.lib_load.proofs.loading.take_text.Goals as goal

pub returns-in-Ok-clause-taken : goal.returns-in-Ok-clause-taken
returns-in-Ok-clause-taken c = λ _. text_accepted _ _ _ _ c.in-Ok.ensures.value

pub returns-in-Err-Refused-clause-taken : goal.returns-in-Err-Refused-clause-taken
returns-in-Err-Refused-clause-taken c = λ _.
    text_refused _ _ _ c.in-Err-Refused.fault c.in-Err-Refused.place _ _ (rw c.in-Err-Refused.field-0-is at c.in-Err-Refused.ensures.value)
    c.position-at.ensures.line c.position-at.ensures.column
