use Rattle.std.proofs.Common.{◌≡◌, drop}
use Rattle.elab_rules.specs.Views.{entries_at}
use Rattle.elab_rules.specs.Wheres.{has_constructors}
use Rattle.elab_realizing.proofs.wheres.+constructed.Given as goal

abbrev pub invariant-has_constructors-loop-entry : goal.invariant-has_constructors-loop-entry
invariant-has_constructors-loop-entry l = has_constructors l.name.0 (entries_at l.table (drop l.entry-index l.entries)) ≡ has_constructors l.name.0 (entries_at l.table l.entries)
