use Rattle.std.proofs.Common.{◌≡◌, ◌-◌, true, replicate}
use Rattle.elab_rules.specs.Equality.{with_choice}
use Rattle.elab_phrases.proofs.equality.choose_all.Given as goal

abbrev pub invariant-loop-name : goal.invariant-loop-name
invariant-loop-name l = record {
  names :
      with_choice l.name (replicate (l.end - l.name) true) l.table.names
      ≡ with_choice l.first (replicate (l.end - l.first) true) l.fn.table.names;
  realizations : l.table.realizations ≡ l.fn.table.realizations;
}
