use Rattle.std.proofs.Common.{◌≡◌, ◌-◌}
use Rattle.elab_rules.specs.Settling.{IsBound, live_count}
use Rattle.elab_phrases.proofs.equality.settle_names.Given as goal

abbrev pub invariant-rounds : goal.invariant-rounds
invariant-rounds l = record {
  bound : IsBound l.first (l.end - l.first) l.entries l.fn.table.names l.table.names;
  realizations : l.table.realizations ≡ l.fn.table.realizations;
}

abbrev pub decreases-rounds : goal.decreases-rounds
decreases-rounds l = live_count l.table.names
