use Rattle.std.proofs.Common.{ℕ, Bool, List, rules}
use Rattle.type_core.specs.Types.{IsOver}
use Rattle.elab_env.specs.Realizations.{resolved}
use Rattle.elab_env.specs.Table.{Table}
use Rattle.elab_rules.specs.declared.entry.Entry.{Entry}
use Rattle.elab_rules.specs.declared.entry.Entry.TheFolds.{fold-Entry}
use Rattle.elab_rules.specs.declared.entry.Entry.TheViews.{the_lemmas}
use Rattle.elab_rules.specs.Replacing.{entry_with}
use Rattle.elab_rules.specs.Views.{entries_at}
use Rattle.elab_rules.specs.Wheres.{has_constructors, has_constructors_step}
use Rattle.elab_phrases.proofs.OverEntries.{item_over, type_over}
use Rattle.elab_realizing.proofs.Tested.{any_goes_on, any_passes, or_apart}
use Rattle.elab_realizing.proofs.wheres.+constructed.Goals as goal

abbrev has : ℕ → Table → List Entry → Bool
has n table entries = has_constructors n (entries_at table entries)

abbrev entry_has : ℕ → Table → Entry → Bool
entry_has n table x = fold-Entry Bool (has_constructors_step n) (entry_with (resolved table.realizations) x)

pub has_constructors-has_constructors_in-requires : goal.has_constructors-has_constructors_in-requires
has_constructors-has_constructors_in-requires t c = (search (rules, the_lemmas), item_over (IsOver c.args.table.now.names) _ _ _ _ c.loop-entry-test.true c.entry-item.is c.requires.over)

pub has_constructors-returns-then-branch : goal.has_constructors-returns-then-branch
has_constructors-returns-then-branch t c =
    let n : ℕ = c.args.name.0 in
    let table : Table = c.args.table.now in
    record { value = any_passes (has n table) _ _ _ _ _ _ c.loop-entry-test.true c.entry-item.is c.in_ok-has_constructors_in.ensures.value c.loop-entry.invariant (λ ys. or_apart (entry_has n table c.entry-item.result) (has n table ys)) (search rules) }

pub has_constructors-loop-entry-preserved : goal.has_constructors-loop-entry-preserved
has_constructors-loop-entry-preserved t c =
    let n : ℕ = c.args.name.0 in
    let table : Table = c.args.table.now in
    any_goes_on (has n table) _ _ _ _ _ _ c.loop-entry-test.true c.entry-item.is c.in_ok-has_constructors_in.ensures.value c.loop-entry.invariant (λ ys. or_apart (entry_has n table c.entry-item.result) (has n table ys)) (search rules)

pub has_constructors_in-is_datatype_of-requires : goal.has_constructors_in-is_datatype_of-requires
has_constructors_in-is_datatype_of-requires t c = record { over = type_over (IsOver c.args.table.now.names) _ _ c.in-Tycon.is c.requires.over }
