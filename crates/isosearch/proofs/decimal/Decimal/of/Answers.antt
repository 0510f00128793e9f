use Rattle.std.proofs.Common.{arith, ℕ, length-set}
use Rattle.isosearch.proofs.Digits.{digit_before, digit_first, shorter}
use Rattle.isosearch.proofs.decimal.Decimal.of.Goals as goal

pub digits-preserved : goal.digits-preserved
digits-preserved c =
    let less = shorter c.digits.rest c.digits.from (omega arith) c.digits.invariant.room c.digits.invariant.small in
    record {
      room = omega (arith, less.0);
      within = omega arith;
      size = omega (arith, length-set {A = ℕ}, c.digits.invariant.size);
      small = less.1;
      read = digit_before _ _ _ _ (omega arith) (omega arith) c.digits.invariant.room (omega (arith, c.digits.invariant.size)) c.digits.invariant.read;
    }

pub returns : goal.returns
returns c = digit_first _ _ _ _ (omega arith) c.digits.invariant.room (omega (arith, c.digits.invariant.size)) c.digits.invariant.read
