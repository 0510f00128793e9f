use Rattle.std.proofs.Common.{inr, arith}
use Rattle.isosearch.proofs.Saying.{piece_said, piece_part}
use Rattle.isosearch.proofs.lines.say.Goals as goal

pub returns-in-Err : goal.returns-in-Err
returns-in-Err g c =
    inr (omega (arith, c.loop-piece.invariant.later, c.in-Err.ensures.cause.failed), piece_part _ _ _ _ _ _ _ c.loop-piece-test.true c.loop-piece.invariant.said c.in-Err.ensures.part)

pub loop-piece-preserved : goal.loop-piece-preserved
loop-piece-preserved g c = record {
  said = piece_said _ _ _ _ _ _ _ c.loop-piece-test.true c.loop-piece.invariant.said c.in-Ok.ensures.all;
  later = omega (arith, c.loop-piece.invariant.later, c.in-Ok.ensures.cause.kept);
}
