use Rattle.std.proofs.Common.{Ok, ap, arith, refl}
use Rattle.lib_load.specs.Given.{file_limit}
use Rattle.lib_load.proofs.Taking.{all_loaded, all_told, decided_answers, many_told, none_read}
use Rattle.lib_load.proofs.loading.load_files.Goals as goal

pub returns-then-len-gt-MAX_FILES-clause-given : goal.returns-then-len-gt-MAX_FILES-clause-given
returns-then-len-gt-MAX_FILES-clause-given g c = λ _. none_read _ _ _ _ (omega (arith, c.if-len-gt-MAX_FILES.true, c.len.ensures.value))

pub returns-then-len-gt-MAX_FILES-clause-told : goal.returns-then-len-gt-MAX_FILES-clause-told
returns-then-len-gt-MAX_FILES-clause-told g c = λ _. many_told _ _ (omega (arith, c.if-len-gt-MAX_FILES.true, c.len.ensures.value))

pub returns-in_ok-library-in-Ok-clause-given : goal.returns-in_ok-library-in-Ok-clause-given
returns-in_ok-library-in-Ok-clause-given g c = λ _.
    all_loaded _ _ c.args.paths.now _ c.as_slice.ensures.value (omega (arith, c.if-len-gt-MAX_FILES.false, c.len.ensures.value)) _ _ _ _ (ap (λ l. Ok l) c.in_ok-library-in-Ok.ensures.library) (c.in-Ok.ensures.given tt)

pub returns-in_ok-library-in-Ok-clause-told : goal.returns-in_ok-library-in-Ok-clause-told
returns-in_ok-library-in-Ok-clause-told g c = λ _.
    all_told _ _ c.args.paths.now _ c.as_slice.ensures.value (omega (arith, c.if-len-gt-MAX_FILES.false, c.len.ensures.value)) _ _ _ _ (ap (λ l. Ok l) c.in_ok-library-in-Ok.ensures.library) (c.in-Ok.ensures.given tt)
    g.F.Files.files tt (c.given_texts_are_held.ensures.law file_limit)

pub returns-in-Err-clause-given : goal.returns-in-Err-clause-given
returns-in-Err-clause-given g c = λ answers.
    all_loaded _ _ c.args.paths.now _ c.as_slice.ensures.value (omega (arith, c.if-len-gt-MAX_FILES.false, c.len.ensures.value)) _ _ _ _ refl (c.in-Err.ensures.given answers)

pub returns-in-Err-clause-told : goal.returns-in-Err-clause-told
returns-in-Err-clause-told g c = λ decided.
    all_told _ _ c.args.paths.now _ c.as_slice.ensures.value (omega (arith, c.if-len-gt-MAX_FILES.false, c.len.ensures.value)) _ _ _ _ refl (c.in-Err.ensures.given (decided_answers _ decided))
    g.F.Files.files decided (c.given_texts_are_held.ensures.law file_limit)
