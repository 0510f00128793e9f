use Rattle.std.proofs.Common.{[], ◌∷◌, is_some, sym, ap, ◌∙◌, subst}
use Rattle.std.proofs.lemmas.List.{take_all}
use Rattle.std.proofs.lemmas.List.Elements.{All-nil}
use Rattle.std.specs.List.{All}
use Rattle.std.specs.Option.{option_and_then}
use Rattle.elab_rules.specs.Environments.{structure_in, type_in}
use Rattle.elab_realizing.specs.SharedStructures.{AreThere, IsThere, entry_along}
use Rattle.elab_realizing.proofs.AlongPaths.{all_along, nothing_there, structure_here, type_here, value_here}
use Rattle.elab_realizing.proofs.StructuresShared.{some_with}
use Rattle.elab_realizing.proofs.sharing.+having.Goals as goal

pub has_entry-returns-in-Tycon : goal.has_entry-returns-in-Tycon
has_entry-returns-in-Tycon t c =
    let other = c.args.other.entries.now in
    record {
      there = λ yes. type_here IsThere nothing_there c.in-Tycon.entry other c.args.entry.now c.in-Tycon.is
          (ap is_some (sym (c.find_type.ensures.value ∙ ap (λ id. type_in id other) c.as_slice.ensures.value)) ∙ some_with (λ x. x.now) c.find_type.result ∙ sym c.is_some.ensures ∙ yes);
    }

pub has_entry-returns-in-Value : goal.has_entry-returns-in-Value
has_entry-returns-in-Value t c = record { there = λ yes. value_here IsThere nothing_there _ c.args.other.entries.now c.args.entry.now c.in-Value.is }

pub has_entry-returns-in-Some : goal.has_entry-returns-in-Some
has_entry-returns-in-Some t c =
    let other = c.args.other.entries.now in
    let entries = c.in-Structure.entries in
    let inner = c.in-Some.inner.entries.now in
    record {
      there = λ yes. structure_here IsThere nothing_there c.in-Structure.id entries other c.args.entry.now c.in-Structure.is
          (λ path. subst (λ o. IsThere (entry_along path entries) (option_and_then (entry_along path) o))
          (c.in-Some.ensures.value ∙ ap (λ id. structure_in id other) c.as_slice-in-Structure.ensures.value)
          (subst (λ es. AreThere es inner) c.as_slice-in-Some.ensures.value (c.has_all.ensures.there yes) path));
    }

pub has_all-loop-entry-init : goal.has_all-loop-entry-init
has_all-loop-entry-init t c = record { there = All-nil _ }

pub has_all-returns : goal.has_all-returns
has_all-returns t c =
    let other = c.args.other.entries.now in
    record {
      there = λ yes. all_along IsThere nothing_there c.args.entries.now other
          (subst (All (λ e. AreThere (e ∷ []) other)) (take_all c.loop-entry.entry-index c.args.entries.now c.loop-entry-test.false) c.loop-entry.invariant.there);
    }
