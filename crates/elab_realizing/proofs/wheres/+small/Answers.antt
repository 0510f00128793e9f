use Rattle.std.proofs.Common.{◌≡◌, nat_le, Bool, true, false, List, map, ◌∙◌, rules}
use Rattle.type_core.specs.declared.ty.Ty.{Ty}
use Rattle.type_core.specs.Lists.{all_true}
use Rattle.type_core.specs.Size.{size_of}
use Rattle.type_core.specs.Types.{IsOver}
use Rattle.elab_env.specs.Realizations.{resolved}
use Rattle.elab_env.specs.Table.{Table}
use Rattle.elab_rules.specs.declared.entry.Entry.{Entry}
use Rattle.elab_rules.specs.declared.entry.Entry.TheViews.{the_lemmas}
use Rattle.elab_rules.specs.Replacing.{entry_with}
use Rattle.elab_rules.specs.Views.{entries_at}
use Rattle.elab_rules.specs.Wheres.{types_of}
use Rattle.elab_rules.proofs.Entries.{entry_types}
use Rattle.elab_realizing.proofs.EntryTests.{value_small}
use Rattle.elab_phrases.proofs.OverEntries.{item_over, type_over, value_over}
use Rattle.elab_realizing.proofs.Tested.{all_apart, all_fails, all_goes_on}
use Rattle.elab_realizing.proofs.wheres.+small.Goals as goal

abbrev are_small : Table → List Entry → Bool
are_small table entries = all_true (map (λ t. nat_le (size_of t) 2000) (types_of (entries_at table entries)))

abbrev types_by_now : Table → Entry → List Ty
types_by_now table x = entry_types (entry_with (resolved table.realizations) x)

pub are_small-is_entry_small-requires : goal.are_small-is_entry_small-requires
are_small-is_entry_small-requires t c = (search (rules, the_lemmas), item_over (IsOver c.args.table.now.names) _ _ _ _ c.loop-entry-test.true c.entry-item.is c.requires.over)

pub are_small-returns-then-not-is_entry_small : goal.are_small-returns-then-not-is_entry_small
are_small-returns-then-not-is_entry_small t c =
    let large : c.is_entry_small.result ≡ false = search rules in
    record { value = all_fails (are_small c.args.table.now) _ _ _ _ _ _ c.loop-entry-test.true c.entry-item.is c.is_entry_small.ensures.value c.loop-entry.invariant (λ ys. all_apart _ (types_by_now c.args.table.now c.entry-item.result) (types_of (entries_at c.args.table.now ys))) large }

pub are_small-loop-entry-preserved : goal.are_small-loop-entry-preserved
are_small-loop-entry-preserved t c =
    let small : c.is_entry_small.result ≡ true = search rules in
    all_goes_on (are_small c.args.table.now) _ _ _ _ _ _ c.loop-entry-test.true c.entry-item.is c.is_entry_small.ensures.value c.loop-entry.invariant (λ ys. all_apart _ (types_by_now c.args.table.now c.entry-item.result) (types_of (entries_at c.args.table.now ys))) small

pub is_entry_small-is_small_by_now-requires : goal.is_entry_small-is_small_by_now-requires
is_entry_small-is_small_by_now-requires t c = record { over = type_over (IsOver c.args.table.now.names) _ _ c.in-Tycon.is c.requires.over }

pub is_entry_small-is_small_by_now-requires-in-Value : goal.is_entry_small-is_small_by_now-requires-in-Value
is_entry_small-is_small_by_now-requires-in-Value t c = record { over = value_over (IsOver c.args.table.now.names) _ _ c.in-Value.is c.requires.over }

pub is_entry_small-returns-in-Value : goal.is_entry_small-returns-in-Value
is_entry_small-returns-in-Value t c = record { value = c.is_small_by_now-in-Value.ensures.value ∙ value_small (resolved c.args.table.now.realizations) c.args.entry.now _ c.in-Value.is }
