use Rattle.lib_gen.proofs.Spread.{AreCounted}
use Rattle.lib_gen.proofs.totals.count.Given as goal

abbrev pub invariant-loop-i : goal.invariant-loop-i
invariant-loop-i l = AreCounted l.lib l.fn.mode l.query l.i l.count
