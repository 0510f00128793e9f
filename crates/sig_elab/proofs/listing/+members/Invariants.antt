use Rattle.std.proofs.Common.{◌≡◌, ◌++◌, map, drop}
use Rattle.type_core.specs.Lists.{concatenated}
use Rattle.elab_rules.specs.declared.entry.Entry.{Entry}
use Rattle.elab_rules.specs.Library.{entry_members}
use Rattle.sig_elab.proofs.listing.+members.Given as goal

abbrev pub invariant-push_members-loop-entry : goal.invariant-push_members-loop-entry
invariant-push_members-loop-entry l =
    l.members ++ concatenated (map (λ (entry : Entry). entry_members entry l.path) (drop l.entry-index l.entries))
    ≡ l.fn.members ++ concatenated (map (λ (entry : Entry). entry_members entry l.path) l.entries)
