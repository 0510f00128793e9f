use Rattle.std.proofs.Common.{arith, ℕ, length-drop}
use Rattle.sig_base.proofs.Written.{Appends-more}
use Rattle.sig_base.proofs.write.write_all.Goals as goal

pub loop-written-preserved : goal.loop-written-preserved
loop-written-preserved g c = record {
  within = omega (arith, length-drop {A = ℕ}, c.in_ok-written.ensures.bound);
  added = Appends-more _ _ _ _ _ _ c.loop-written.invariant.added c.in_ok-written.ensures.bytes;
  counts = omega (arith, c.in_ok-written.ensures.cause.kept);
}
