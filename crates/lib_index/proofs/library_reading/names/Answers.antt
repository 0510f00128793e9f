use Rattle.std.proofs.lemmas.Result.{err_from_is_err_and}
use Rattle.lib_index.specs.Reading.{charged, many, name_at, rest_of, with_front}
use Rattle.type_core.specs.Weight.{name_weight}
use Rattle.lib_index.proofs.Loops.{ends, goes_on, is_done}
use Rattle.lib_index.proofs.library_reading.names.Goals as goal

pub returns : goal.returns
returns c =
    let read = charged name_weight name_at in
    record {
      read = is_done read c.loop.names c.args.count c.loop.counter (rest_of c.loop.after)
          (with_front c.args.known (many read c.args.count (rest_of c.args.rest))) c.loop-test.false c.loop.invariant;
    }

pub loop-preserved : goal.loop-preserved
loop-preserved c =
    let read = charged name_weight name_at in
    rw c.in_ok-push.ensures.pushed (goes_on read c.loop.names c.args.count c.loop.counter
    (rest_of c.loop.after) c.in_ok-name.name (rest_of c.in_ok-name.next) (with_front c.args.known
    (many read c.args.count (rest_of c.args.rest))) c.loop-test.true c.in_ok-name.ensures.read c.loop.invariant)

pub returns-in_err-name : goal.returns-in_err-name
returns-in_err-name c =
    let read = charged name_weight name_at in
    let p = err_from_is_err_and c.from_residual.result c.from_residual.ensures.1 in
    record {
      read = rw (p.1, p.2) (ends read c.in_err-name.field-0.0 c.loop.names c.args.count c.loop.counter
          (rest_of c.loop.after) (with_front c.args.known (many read c.args.count
          (rest_of c.args.rest))) c.loop-test.true c.in_err-name.ensures.read c.loop.invariant);
    }
