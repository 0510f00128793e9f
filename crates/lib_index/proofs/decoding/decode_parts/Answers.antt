use Rattle.std.proofs.Common.{arith, sym, ◌∙◌, true≢false}
use Rattle.std.proofs.lemmas.Result.{err_from_is_err_and}
use Rattle.lib_index.specs.Reading.{rest_of}
use Rattle.lib_index.proofs.OneLibrary.{invalid_read, is_index, not_read}
use Rattle.lib_index.proofs.decoding.decode_parts.Goals as goal

pub returns-in_err-library-clause-not_an_index : goal.returns-in_err-library-clause-not_an_index
returns-in_err-library-clause-not_an_index c =
    let p = err_from_is_err_and c.from_residual.result c.from_residual.ensures.1 in
    rw (p.1, p.2) (not_read c.in_err-library.field-0.0 c.args.bytes.now c.in_err-library.ensures.read)

pub returns-then-branch-clause-found : goal.returns-then-branch-clause-found
returns-then-branch-clause-found c =
    is_index c.args.bytes.now c.in_ok-library.library (rest_of c.in_ok-library.field-0-1) (λ i. omega (
      arith,
      c.type_inv.bytes i,
    )) c.in_ok-library.ensures.read (c.in_ok-is_valid_library.ensures.exact.0 c.if-branch.true)

pub returns-else-branch-clause-not_an_index : goal.returns-else-branch-clause-not_an_index
returns-else-branch-clause-not_an_index c = λ _. invalid_read c.args.bytes.now c.in_ok-library.library
    (rest_of c.in_ok-library.field-0-1) c.in_ok-library.ensures.read
    (λ valid. true≢false (sym (c.in_ok-is_valid_library.ensures.exact.1 valid) ∙ c.if-branch.false))
