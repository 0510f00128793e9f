use Rattle.std.proofs.Common.{◌≡◌, ◌<◌, ◌≤◌, ◌-◌, List, true, false, drop}
use Rattle.type_core.specs.declared.names.TypeName.{TypeName}
use Rattle.elab_rules.specs.Equality.{all_fit}
use Rattle.elab_rules.specs.Settling.{IsBound, live_count}
use Rattle.elab_phrases.proofs.equality.deny_misfits.Given as goal

abbrev pub invariant-loop-entry : goal.invariant-loop-entry
invariant-loop-entry l = record {
  bound : (names : List TypeName) → IsBound l.first (l.end - l.first) l.entries names l.fn.table.names → IsBound l.first (l.end - l.first) l.entries names l.table.names;
  fit : l.changed ≡ false → all_fit l.table.names (drop l.entry-index l.entries) ≡ all_fit l.table.names l.entries;
  fewer : l.changed ≡ true → live_count l.table.names < live_count l.fn.table.names;
  no_more : live_count l.table.names ≤ live_count l.fn.table.names;
  realizations : l.table.realizations ≡ l.fn.table.realizations;
}
