use Rattle.std.proofs.Common.{◌≡◌, nat_le, Bool, true, false, List, map, rules}
use Rattle.type_core.specs.Height.{height_of}
use Rattle.type_core.specs.Lists.{all_true}
use Rattle.elab_rules.specs.declared.entry.Entry.{Entry}
use Rattle.elab_rules.specs.Wheres.{types_of}
use Rattle.elab_rules.proofs.Entries.{entry_types}
use Rattle.elab_realizing.proofs.Tested.{all_apart, all_fails, all_goes_on}
use Rattle.elab_realizing.proofs.wheres.+low.Goals as goal

abbrev are_low : List Entry → Bool
are_low entries = all_true (map (λ t. nat_le (height_of t) 200) (types_of entries))

pub are_low-returns-then-not-is_entry_low : goal.are_low-returns-then-not-is_entry_low
are_low-returns-then-not-is_entry_low t c =
    let high : c.is_entry_low.result ≡ false = search rules in
    record { value = all_fails are_low _ _ _ _ _ _ c.loop-entry-test.true c.entry-item.is c.is_entry_low.ensures.value c.loop-entry.invariant (λ ys. all_apart _ (entry_types c.entry-item.result) (types_of ys)) high }

pub are_low-loop-entry-preserved : goal.are_low-loop-entry-preserved
are_low-loop-entry-preserved t c =
    let low : c.is_entry_low.result ≡ true = search rules in
    all_goes_on are_low _ _ _ _ _ _ c.loop-entry-test.true c.entry-item.is c.is_entry_low.ensures.value c.loop-entry.invariant (λ ys. all_apart _ (entry_types c.entry-item.result) (types_of ys)) low
