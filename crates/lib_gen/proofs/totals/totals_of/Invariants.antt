use Rattle.std.specs.List.{All}
use Rattle.lib_gen.specs.Counts.{IsCounted}
use Rattle.lib_gen.specs.Summary.{AreTotals}
use Rattle.lib_gen.proofs.totals.totals_of.Given as goal

abbrev pub invariant-loop-i : goal.invariant-loop-i
invariant-loop-i l = AreTotals l.lib l.i l.totals × All (IsCounted l.lib l.classes) l.before
