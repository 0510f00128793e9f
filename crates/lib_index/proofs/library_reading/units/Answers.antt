use Rattle.std.proofs.lemmas.Result.{err_from_is_err_and}
use Rattle.lib_index.specs.Reading.{charged, many, rest_of, unit_at}
use Rattle.type_core.specs.Weight.{unit_weight}
use Rattle.lib_index.proofs.Loops.{ends, goes_on, is_done}
use Rattle.lib_index.proofs.library_reading.units.Goals as goal

pub returns : goal.returns
returns c =
    let read = charged unit_weight unit_at in
    record {
      read = is_done read c.loop.units c.args.count c.loop.counter (rest_of c.loop.after)
          (many read c.args.count (rest_of c.args.rest)) c.loop-test.false c.loop.invariant;
    }

pub loop-preserved : goal.loop-preserved
loop-preserved c =
    let read = charged unit_weight unit_at in
    rw c.in_ok-push.ensures.pushed (goes_on read c.loop.units c.args.count c.loop.counter
    (rest_of c.loop.after) c.in_ok-unit.unit (rest_of c.in_ok-unit.next) (many read c.args.count
    (rest_of c.args.rest)) c.loop-test.true c.in_ok-unit.ensures.read c.loop.invariant)

pub returns-in_err-unit : goal.returns-in_err-unit
returns-in_err-unit c =
    let read = charged unit_weight unit_at in
    let p = err_from_is_err_and c.from_residual.result c.from_residual.ensures.1 in
    record {
      read = rw (p.1, p.2) (ends read c.in_err-unit.field-0.0 c.loop.units c.args.count c.loop.counter
          (rest_of c.loop.after) (many read c.args.count
          (rest_of c.args.rest)) c.loop-test.true c.in_err-unit.ensures.read c.loop.invariant);
    }
