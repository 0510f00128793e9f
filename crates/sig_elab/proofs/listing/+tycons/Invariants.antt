use Rattle.std.proofs.Common.{◌≡◌, ◌++◌, map, drop}
use Rattle.type_core.specs.Lists.{concatenated}
use Rattle.elab_rules.specs.declared.entry.Entry.{Entry}
use Rattle.elab_rules.specs.Library.{entry_tycons}
use Rattle.sig_elab.proofs.listing.+tycons.Given as goal

abbrev pub invariant-push_tycons-loop-entry : goal.invariant-push_tycons-loop-entry
invariant-push_tycons-loop-entry l =
    l.tycons ++ concatenated (map (λ (entry : Entry). entry_tycons entry l.path) (drop l.entry-index l.entries))
    ≡ l.fn.tycons ++ concatenated (map (λ (entry : Entry). entry_tycons entry l.path) l.entries)
