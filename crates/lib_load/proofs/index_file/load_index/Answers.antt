use Rattle.std.proofs.Common.{Err, ap}
use Rattle.lib_load.specs.Indexes.{failed, found, long, none}
use Rattle.lib_load.proofs.IndexTold.{long_told, text_told}
use Rattle.lib_load.proofs.OneFile.{many_given, text_given, unread_given}
use Rattle.lib_load.proofs.index_file.load_index.Goals as goal

pub returns-in-Ok-decode-clause-given : goal.returns-in-Ok-decode-clause-given
returns-in-Ok-decode-clause-given g c = λ _.
    text_given _ _ _ _ _ _ _ _ c.in-Ok.ensures.given c.in-Ok.ensures.short (found (rw c.as_slice.ensures.value at c.in-Ok-decode.ensures.found))

pub returns-in-Ok-decode-clause-told : goal.returns-in-Ok-decode-clause-told
returns-in-Ok-decode-clause-told g c = λ _.
    text_told _ _ _ _ c.in-Ok.ensures.whole c.in-Ok.ensures.short (found (rw c.as_slice.ensures.value at c.in-Ok-decode.ensures.found))

pub returns-in-Err-NotAnIndex-clause-given : goal.returns-in-Err-NotAnIndex-clause-given
returns-in-Err-NotAnIndex-clause-given g c = λ _.
    text_given _ _ _ _ _ _ _ _ c.in-Ok.ensures.given c.in-Ok.ensures.short (none (rw c.as_slice.ensures.value at (c.in-Err-NotAnIndex.ensures.not_an_index c.in-Err-NotAnIndex.field-0-is)))

pub returns-in-Err-NotAnIndex-clause-told : goal.returns-in-Err-NotAnIndex-clause-told
returns-in-Err-NotAnIndex-clause-told g c = λ _.
    text_told _ _ _ _ c.in-Ok.ensures.whole c.in-Ok.ensures.short (none (rw c.as_slice.ensures.value at (c.in-Err-NotAnIndex.ensures.not_an_index c.in-Err-NotAnIndex.field-0-is)))

pub returns-in-Err-ReadFault-clause-given : goal.returns-in-Err-ReadFault-clause-given
returns-in-Err-ReadFault-clause-given g c = λ _. unread_given _ _ _ _ _ _ _ (c.in-Err-ReadFault.ensures.given_fault (ap (λ e. Err e) c.in-Err-ReadFault.field-0-is)) failed

pub returns-in-Err-TooLong-clause-given : goal.returns-in-Err-TooLong-clause-given
returns-in-Err-TooLong-clause-given g c = λ _. many_given _ _ _ _ _ _ _ (c.in-Err-TooLong.ensures.given_more (ap (λ e. Err e) c.in-Err-TooLong.field-0-is)) long

pub returns-in-Err-TooLong-clause-told : goal.returns-in-Err-TooLong-clause-told
returns-in-Err-TooLong-clause-told g c = λ _. long_told _ _ (c.in-Err-TooLong.ensures.too_long (ap (λ e. Err e) c.in-Err-TooLong.field-0-is))
