use Rattle.std.proofs.lemmas.Result.{err_from_is_err_and}
use Rattle.lib_index.specs.Reading.{charged, many, member_at, rest_of}
use Rattle.type_core.specs.Weight.{member_weight}
use Rattle.lib_index.proofs.Loops.{ends, goes_on, is_done}
use Rattle.lib_index.proofs.library_reading.members.Goals as goal

pub returns : goal.returns
returns c =
    let read = charged member_weight (member_at c.args.names.now) in
    record {
      read = is_done read c.loop.members c.args.count c.loop.counter (rest_of c.loop.after)
          (many read c.args.count (rest_of c.args.rest)) c.loop-test.false c.loop.invariant;
    }

pub loop-preserved : goal.loop-preserved
loop-preserved c =
    let read = charged member_weight (member_at c.args.names.now) in
    rw c.in_ok-push.ensures.pushed (goes_on read c.loop.members c.args.count c.loop.counter
    (rest_of c.loop.after) c.in_ok-member.member (rest_of c.in_ok-member.next) (many read c.args.count
    (rest_of c.args.rest)) c.loop-test.true c.in_ok-member.ensures.read c.loop.invariant)

pub returns-in_err-member : goal.returns-in_err-member
returns-in_err-member c =
    let read = charged member_weight (member_at c.args.names.now) in
    let p = err_from_is_err_and c.from_residual.result c.from_residual.ensures.1 in
    record {
      read = rw (p.1, p.2) (ends read c.in_err-member.field-0.0 c.loop.members c.args.count c.loop.counter
          (rest_of c.loop.after) (many read c.args.count
          (rest_of c.args.rest)) c.loop-test.true c.in_err-member.ensures.read c.loop.invariant);
    }
