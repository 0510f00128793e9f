use Rattle.std.proofs.Common.{Err, ap}
use Rattle.lib_load.proofs.FileTaken.{long_refused, unread_refused}
use Rattle.lib_load.proofs.OneFile.{many_given, text_given, unread_given}
use Rattle.lib_load.proofs.loading.take_file.Goals as goal

pub returns-in-Ok-clause-given : goal.returns-in-Ok-clause-given
returns-in-Ok-clause-given g c = λ answers.
    text_given _ _ _ _ _ _ _ _ c.in-Ok.ensures.given c.in-Ok.ensures.short (rw c.as_slice.ensures.value at c.take_text.ensures.taken answers)

pub returns-in-Err-TooLong-clause-given : goal.returns-in-Err-TooLong-clause-given
returns-in-Err-TooLong-clause-given g c = λ _. many_given _ _ _ _ _ _ _ (c.in-Err-TooLong.ensures.given_more (ap (λ e. Err e) c.in-Err-TooLong.field-0-is)) (long_refused _ _)

pub returns-in-Err-ReadFault-clause-given : goal.returns-in-Err-ReadFault-clause-given
returns-in-Err-ReadFault-clause-given g c = λ _. unread_given _ _ _ _ _ _ _ (c.in-Err-ReadFault.ensures.given_fault (ap (λ e. Err e) c.in-Err-ReadFault.field-0-is)) (unread_refused _ _)
