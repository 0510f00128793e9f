use Rattle.std.proofs.lemmas.Result.{err_from_is_err_and}
use Rattle.lib_index.specs.Reading.{coded, flag_of, many, rest_of}
use Rattle.lib_index.proofs.Loops.{ends, goes_on, is_done}
use Rattle.lib_index.proofs.library_reading.marks.Goals as goal

pub returns : goal.returns
returns c =
    let read = coded flag_of in
    record {
      read = is_done read c.loop.marks c.args.count c.loop.counter (rest_of c.loop.after)
          (many read c.args.count (rest_of c.args.rest)) c.loop-test.false c.loop.invariant;
    }

pub loop-preserved : goal.loop-preserved
loop-preserved c =
    let read = coded flag_of in
    rw c.in_ok-push.ensures.pushed (goes_on read c.loop.marks c.args.count c.loop.counter
    (rest_of c.loop.after) c.in_ok-mark.mark (rest_of c.in_ok-mark.next) (many read c.args.count
    (rest_of c.args.rest)) c.loop-test.true c.in_ok-mark.ensures.read c.loop.invariant)

pub returns-in_err-mark : goal.returns-in_err-mark
returns-in_err-mark c =
    let read = coded flag_of in
    let p = err_from_is_err_and c.from_residual.result c.from_residual.ensures.1 in
    record {
      read = rw (p.1, p.2) (ends read c.in_err-mark.field-0.0 c.loop.marks c.args.count c.loop.counter
          (rest_of c.loop.after) (many read c.args.count
          (rest_of c.args.rest)) c.loop-test.true c.in_err-mark.ensures.read c.loop.invariant);
    }
