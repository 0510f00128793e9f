use Rattle.std.proofs.Common.{◌-◌, subst, arith}
use Rattle.std.proofs.lemmas.Result.{err_from_is_err_and}
use Rattle.lib_index.specs.Reading.{Reads, field_at, many, rest_of, told, type_at}
use Rattle.lib_index.proofs.Loops.{ends, goes_on, is_done}
use Rattle.lib_index.proofs.TypeSteps.{form_read}
use Rattle.lib_index.proofs.type_reading.+types.Goals as goal

pub type_of-returns : goal.type_of-returns
type_of-returns t c = record {
  read = subst (λ read. Reads read c.of_form.result)
      (form_read c.args.place.names.now (told c.args.place.marks) c.args.height (c.args.height - 1)
      (rest_of c.args.rest) (rest_of c.in_ok-rest.rest) (rest_of c.in_ok-form.rest) c.in_ok-form.form
      (omega (arith, c.if-height-eq0.false)) c.in_ok-rest.ensures.spent c.in_ok-form.ensures.read)
      c.of_form.ensures.read;
}

pub types-returns : goal.types-returns
types-returns t c =
    let read = type_at c.args.place.names.now (told c.args.place.marks) c.args.height in
    record {
      read = is_done read c.loop.types c.args.count c.loop.counter (rest_of c.loop.after)
          (many read c.args.count (rest_of c.args.rest)) c.loop-test.false c.loop.invariant;
    }

pub types-loop-preserved : goal.types-loop-preserved
types-loop-preserved t c =
    let read = type_at c.args.place.names.now (told c.args.place.marks) c.args.height in
    rw c.in_ok-push.ensures.pushed (goes_on read c.loop.types c.args.count c.loop.counter
    (rest_of c.loop.after) c.in_ok-t.t (rest_of c.in_ok-t.next) (many read c.args.count
    (rest_of c.args.rest)) c.loop-test.true c.in_ok-t.ensures.read c.loop.invariant)

pub types-returns-in_err-t : goal.types-returns-in_err-t
types-returns-in_err-t t c =
    let read = type_at c.args.place.names.now (told c.args.place.marks) c.args.height in
    let p = err_from_is_err_and c.from_residual.result c.from_residual.ensures.1 in
    record {
      read = rw (p.1, p.2) (ends read c.in_err-t.field-0.0 c.loop.types c.args.count c.loop.counter
          (rest_of c.loop.after) (many read c.args.count
          (rest_of c.args.rest)) c.loop-test.true c.in_err-t.ensures.read c.loop.invariant);
    }

pub fields-returns : goal.fields-returns
fields-returns t c =
    let read = field_at (type_at c.args.place.names.now (told c.args.place.marks) c.args.height) in
    record {
      read = is_done read c.loop.fields c.args.count c.loop.counter (rest_of c.loop.after)
          (many read c.args.count (rest_of c.args.rest)) c.loop-test.false c.loop.invariant;
    }

pub fields-loop-preserved : goal.fields-loop-preserved
fields-loop-preserved t c =
    let read = field_at (type_at c.args.place.names.now (told c.args.place.marks) c.args.height) in
    rw c.in_ok-push.ensures.pushed (goes_on read c.loop.fields c.args.count c.loop.counter
    (rest_of c.loop.after) c.in_ok-field.field (rest_of c.in_ok-field.next) (many read c.args.count
    (rest_of c.args.rest)) c.loop-test.true c.in_ok-field.ensures.read c.loop.invariant)

pub fields-returns-in_err-field : goal.fields-returns-in_err-field
fields-returns-in_err-field t c =
    let read = field_at (type_at c.args.place.names.now (told c.args.place.marks) c.args.height) in
    let p = err_from_is_err_and c.from_residual.result c.from_residual.ensures.1 in
    record {
      read = rw (p.1, p.2) (ends read c.in_err-field.field-0.0 c.loop.fields c.args.count c.loop.counter
          (rest_of c.loop.after) (many read c.args.count
          (rest_of c.args.rest)) c.loop-test.true c.in_err-field.ensures.read c.loop.invariant);
    }
