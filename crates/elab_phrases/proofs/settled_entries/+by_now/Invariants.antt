use Rattle.std.proofs.Common.{◌≡◌, ◌++◌, drop}
use Rattle.elab_env.specs.Realizations.{resolved}
use Rattle.elab_rules.specs.Replacing.{environment_with}
use Rattle.elab_phrases.proofs.settled_entries.+by_now.Given as goal

abbrev pub invariant-entries_by_now-loop-entry : goal.invariant-entries_by_now-loop-entry
invariant-entries_by_now-loop-entry l =
    l.settled.items ++ environment_with (resolved l.table.realizations) (drop l.entry-index l.entries) ≡ environment_with (resolved l.table.realizations) l.entries
