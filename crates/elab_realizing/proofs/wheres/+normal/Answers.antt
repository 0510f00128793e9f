use Rattle.std.proofs.Common.{◌≡◌, nat_le, Bool, true, false, List, map, rules}
use Rattle.type_core.specs.declared.ty.Ty.{Ty}
use Rattle.type_core.specs.Lists.{all_true}
use Rattle.type_core.specs.NormalSize.{normal_size_of}
use Rattle.elab_rules.specs.declared.entry.Entry.{Entry}
use Rattle.elab_rules.specs.declared.entry.Entry.TheFolds.{fold-Entry}
use Rattle.elab_rules.specs.Wheres.{value_types_of, value_types_step}
use Rattle.elab_realizing.proofs.Tested.{all_apart, all_fails, all_goes_on}
use Rattle.elab_realizing.proofs.wheres.+normal.Goals as goal

abbrev are_normal : List Entry → Bool
are_normal entries = all_true (map (λ t. nat_le (normal_size_of t) 8000) (value_types_of entries))

pub are_normal-returns-then-not-is_entry_normal : goal.are_normal-returns-then-not-is_entry_normal
are_normal-returns-then-not-is_entry_normal t c =
    let large : c.is_entry_normal.result ≡ false = search rules in
    record { value = all_fails are_normal _ _ _ _ _ _ c.loop-entry-test.true c.entry-item.is c.is_entry_normal.ensures.value c.loop-entry.invariant (λ ys. all_apart _ (fold-Entry (List Ty) value_types_step c.entry-item.result) (value_types_of ys)) large }

pub are_normal-loop-entry-preserved : goal.are_normal-loop-entry-preserved
are_normal-loop-entry-preserved t c =
    let small : c.is_entry_normal.result ≡ true = search rules in
    all_goes_on are_normal _ _ _ _ _ _ c.loop-entry-test.true c.entry-item.is c.is_entry_normal.ensures.value c.loop-entry.invariant (λ ys. all_apart _ (fold-Entry (List Ty) value_types_step c.entry-item.result) (value_types_of ys)) small
