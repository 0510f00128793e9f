use Rattle.std.proofs.Common.{take}
use Rattle.elab_rules.specs.Indexes.{IsIndex}
use Rattle.elab_rules.proofs.body.Body.with_all.Given as goal

abbrev pub invariant-loop-place : goal.invariant-loop-place
invariant-loop-place l = IsIndex l.index (take l.place l.entries.items)
