use Rattle.std.proofs.Common.{take}
use Rattle.elab_rules.specs.Indexes.{IsIndex}
use Rattle.elab_rules.proofs.index.+indexing.Given as goal

abbrev pub invariant-index_of-loop-place : goal.invariant-index_of-loop-place
invariant-index_of-loop-place l = IsIndex l.index (take l.place l.entries)
