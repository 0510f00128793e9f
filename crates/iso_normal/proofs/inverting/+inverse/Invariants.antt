use Rattle.std.proofs.Common.{◌≡◌, take}
use Rattle.iso_normal.specs.PairTrees.{entries_of, inverse, pair_tree}
use Rattle.iso_normal.proofs.inverting.+inverse.Given as goal

abbrev pub invariant-inverse_entries-loop-number : goal.invariant-inverse_entries-loop-number
invariant-inverse_entries-loop-number l = l.done ≡ take l.number-index (entries_of (inverse (pair_tree l.entries)))
