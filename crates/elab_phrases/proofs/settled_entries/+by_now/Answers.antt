use Rattle.std.proofs.Common.{rules}
use Rattle.type_core.specs.Types.{IsOver}
use Rattle.elab_env.specs.Realizations.{resolved}
use Rattle.elab_rules.specs.declared.entry.Entry.TheViews.{the_lemmas}
use Rattle.elab_phrases.proofs.EntriesChanged.{changed_more}
use Rattle.elab_phrases.proofs.OverEntries.{item_over, type_over, value_over}
use Rattle.elab_phrases.proofs.settled_entries.+by_now.Goals as goal

pub entries_by_now-entry_by_now-requires : goal.entries_by_now-entry_by_now-requires
entries_by_now-entry_by_now-requires t c =
    (search (rules, the_lemmas), item_over (IsOver c.args.table.now.names) _ _ _ _ c.loop-entry-test.true c.entry-item.is c.requires.over)

pub entries_by_now-loop-entry-preserved : goal.entries_by_now-loop-entry-preserved
entries_by_now-loop-entry-preserved t c =
    changed_more (resolved c.args.table.now.realizations) _ _ _ _ _ c.loop-entry.settled.items _ _ c.loop-entry-test.true c.entry-item.is c.in_ok-entry_by_now.ensures.value c.in_ok-push.ensures.items c.loop-entry.invariant

pub entry_by_now-type_by_now-requires : goal.entry_by_now-type_by_now-requires
entry_by_now-type_by_now-requires t c = record { over = type_over (IsOver c.args.table.now.names) _ _ c.in-Tycon.is c.requires.over }

pub entry_by_now-value_by_now-requires : goal.entry_by_now-value_by_now-requires
entry_by_now-value_by_now-requires t c = record { over = value_over (IsOver c.args.table.now.names) _ _ c.in-Value.is c.requires.over }
