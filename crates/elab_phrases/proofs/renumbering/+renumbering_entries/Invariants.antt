use Rattle.std.proofs.Common.{◌≡◌, ◌++◌, map, drop}
use Rattle.elab_rules.specs.Copies.{with_numbers}
use Rattle.elab_phrases.specs.Renumbering.{numbers_of}
use Rattle.elab_rules.specs.Replacing.{entry_with}
use Rattle.elab_phrases.proofs.renumbering.+renumbering_entries.Given as goal

abbrev pub invariant-entries_renumbered-loop-entry : goal.invariant-entries_renumbered-loop-entry
invariant-entries_renumbered-loop-entry l = l.copies.items ++ map (entry_with (with_numbers (numbers_of l.numbering))) (drop l.entry-index l.entries) ≡ map (entry_with (with_numbers (numbers_of l.numbering))) l.entries
