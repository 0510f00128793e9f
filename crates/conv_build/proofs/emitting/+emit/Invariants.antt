use Rattle.std.proofs.Common.{◌≡◌, ◌++◌, drop}
use Rattle.conv_build.specs.direct.HoleMoves.{hole_moves}
use Rattle.conv_build.specs.direct.TwoPasses.{filled}
use Rattle.conv_build.proofs.emitting.+emit.Given as goal

abbrev pub invariant-sent-loop-k : goal.invariant-sent-loop-k
invariant-sent-loop-k l = l.done.items ++ filled (drop l.k ((hole_moves l.p).forth l.references)) (drop l.k l.leaves) ≡ filled ((hole_moves l.p).forth l.references) l.leaves

abbrev pub invariant-brought-loop-k : goal.invariant-brought-loop-k
invariant-brought-loop-k l = l.done.items ++ filled (drop l.k ((hole_moves l.p).back l.references)) (drop l.k l.leaves) ≡ filled ((hole_moves l.p).back l.references) l.leaves
