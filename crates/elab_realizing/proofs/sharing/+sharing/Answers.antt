use Rattle.std.proofs.Common.{◌∷◌, ◌++◌, [], Some, take, refl, sym, ap, ◌∙◌, subst, rules}
use Rattle.std.proofs.lemmas.List.{at_drop_all, take_all}
use Rattle.std.proofs.lemmas.List.Elements.{All-more, All-nil, All-weaker}
use Rattle.std.specs.List.{All}
use Rattle.std.specs.Option.{option_and_then}
use Rattle.type_core.specs.declared.ty.Ty.{Ty}
use Rattle.type_core.specs.Types.{IsOver}
use Rattle.elab_env.specs.Realizations.{resolved}
use Rattle.elab_rules.specs.declared.entry.Entry.{Entry}
use Rattle.elab_rules.specs.declared.entry.Entry.TheViews.{the_lemmas}
use Rattle.elab_rules.specs.Environments.{structure_in, type_in}
use Rattle.elab_rules.specs.Sharing.{paths_from, paths_shared}
use Rattle.elab_rules.specs.Standing.{AreOver}
use Rattle.elab_rules.specs.Views.{body_at, state_of}
use Rattle.elab_realizing.proofs.Agreed.{agrees_failed, agrees_same, body_fails, fails_on}
use Rattle.elab_rules.proofs.FoundOver.{structure_in_over, type_in_over}
use Rattle.elab_phrases.proofs.OverEntries.{item_over, structure_over, type_over}
use Rattle.elab_realizing.proofs.SharedPaths.{entry_moves_on, entry_turn, inner_along, item_along, other_along, structure_missing, structure_shared, type_missing, type_shared, value_shared}
use Rattle.elab_phrases.proofs.Staying.{grew_itself, grew_twice, over_later}
use Rattle.elab_realizing.specs.SharedStructures.{AreSame, AreShared, entry_along}
use Rattle.elab_realizing.proofs.AlongPaths.{all_along, nothing_same, ok_then, same_nothing, shared_more, structure_here, type_here, value_here}
use Rattle.elab_realizing.proofs.sharing.+sharing.Goals as goal

pub share_all-loop-entry-init : goal.share_all-loop-entry-init
share_all-loop-entry-init t c = record { turns = λ whole a b path site same distinct over along other. refl; same = All-nil _; grew = grew_itself _ _ }

pub share_all-share_entry-requires : goal.share_all-share_entry-requires
share_all-share_entry-requires t c =
    let names = c.args.progress.now.table.names in
    let later = c.loop-entry.progress.table.names in (
      search (rules, the_lemmas),
      (
        item_over (IsOver later) _ _ _ _ c.loop-entry-test.true c.entry-item.is (over_later names later c.loop-entry.invariant.grew.names c.args.entries.now c.requires.over),
        over_later names later c.loop-entry.invariant.grew.names c.args.other.entries.now c.requires.other_over,
      ),
    )

pub share_all-returns-in_err-share_entry-clause-outcome : goal.share_all-returns-in_err-share_entry-clause-outcome
share_all-returns-in_err-share_entry-clause-outcome t c = λ whole a b path site same distinct over along other.
    let q = c.loop-entry.progress in
    let over_now : AreOver q.table.names whole = over_later c.args.progress.now.table.names q.table.names c.loop-entry.invariant.grew.names whole over in
    agrees_failed _ c.from_residual.result _ whole c.share_entry.new.progress c.from_residual.ensures.1
    (fails_on _ _ _ _
    (entry_turn a b path c.args.token site (body_at q whole) (state_of q) c.args.entries.now c.loop-entry.entry-index c.entry-item.result _ _ c.loop-entry-test.true c.entry-item.is (c.loop-entry.invariant.turns whole a b path site same distinct over along other))
    (body_fails _ _ whole c.share_entry.new.progress
    (c.in_err-share_entry.ensures.outcome whole a b path site same distinct over_now (item_along (a ++ path) whole c.args.entries.now c.loop-entry.entry-index c.entry-item.result c.loop-entry-test.true c.entry-item.is along) other)))

pub share_all-loop-entry-preserved : goal.share_all-loop-entry-preserved
share_all-loop-entry-preserved t c =
    let q = c.loop-entry.progress in
    record {
      turns = λ whole a b path site same distinct over along other.
          let over_now : AreOver q.table.names whole = over_later c.args.progress.now.table.names q.table.names c.loop-entry.invariant.grew.names whole over in
          entry_moves_on a b path c.args.token site (body_at q whole) (state_of q) c.args.entries.now c.loop-entry.entry-index c.entry-item.result _ _ c.loop-entry-test.true c.entry-item.is (c.loop-entry.invariant.turns whole a b path site same distinct over along other)
          _ _ (c.in_ok-share_entry.ensures.outcome whole a b path site same distinct over_now (item_along (a ++ path) whole c.args.entries.now c.loop-entry.entry-index c.entry-item.result c.loop-entry-test.true c.entry-item.is along) other);
      same =
          let rs = q.table.realizations in
          let later = c.share_entry.new.progress.table.realizations in
          let grew = c.in_ok-share_entry.ensures.grew in
          let other = c.args.other.entries.now in
          let Was = λ (e : Entry). AreShared rs (e ∷ []) other in
          let Is = λ (e : Entry). AreShared later (e ∷ []) other in
          All-more Is c.args.entries.now c.loop-entry.entry-index c.entry-item.result c.loop-entry-test.true
          (All-weaker Was Is (λ e was. shared_more rs grew.more later (e ∷ []) other grew.realizations was) (take c.loop-entry.entry-index c.args.entries.now) c.loop-entry.invariant.same)
          (subst Is c.entry-item.is c.in_ok-share_entry.ensures.same);
      grew = grew_twice _ _ _ _ c.loop-entry.invariant.grew c.in_ok-share_entry.ensures.grew;
    }

pub share_all-returns-clause-outcome : goal.share_all-returns-clause-outcome
share_all-returns-clause-outcome t c = λ whole a b path site same distinct over along other.
    let q = c.loop-entry.progress in
    sym (c.loop-entry.invariant.turns whole a b path site same distinct over along other)
    ∙ at_drop_all (λ es. paths_shared a b c.args.token (paths_from path es) site (body_at q whole) (state_of q)) c.args.entries.now c.loop-entry.entry-index c.loop-entry-test.false

pub share_entry-share_functions-requires : goal.share_entry-share_functions-requires
share_entry-share_functions-requires t c =
    let names = c.args.progress.now.table.names in
    record { over = (type_over (IsOver names) _ _ c.in-Tycon.is c.requires.over, type_in_over (IsOver names) c.as_slice.result.now c.in-Some.found.now c.args.other.entries.now c.requires.other_over (sym c.in-Some.ensures.value)) }

pub share_entry-share_all-requires : goal.share_entry-share_all-requires
share_entry-share_all-requires t c =
    let names = c.args.progress.now.table.names in (
      search (rules, the_lemmas),
      (
        subst (AreOver names) (sym c.as_slice-in-Some-find_structure.ensures.value) (structure_over (IsOver names) _ _ _ c.in-Structure.is c.requires.over),
        structure_in_over (IsOver names) c.as_slice-in-Structure.result.now c.in-Some-find_structure.inner.entries.now c.args.other.entries.now c.requires.other_over (sym c.in-Some-find_structure.ensures.value),
      ),
    )

pub share_entry-returns-in-None-clause-grew : goal.share_entry-returns-in-None-clause-grew
share_entry-returns-in-None-clause-grew t c = grew_itself _ _

pub share_entry-returns-in-None-clause-outcome : goal.share_entry-returns-in-None-clause-outcome
share_entry-returns-in-None-clause-outcome t c = λ whole a b path site same distinct over stands along.
    let p = c.args.progress.now in
    let now : Ty → Ty = resolved p.table.realizations in
    type_missing a b path c.args.token site (state_of p) now whole c.args.other.entries.now c.args.entry.now along c.in-Tycon.entry c.in-Tycon.is
    (sym (c.in-None.ensures.value ∙ ap (λ id. type_in id c.args.other.entries.now) c.as_slice.ensures.value))

pub share_entry-returns-in-Some-clause-outcome : goal.share_entry-returns-in-Some-clause-outcome
share_entry-returns-in-Some-clause-outcome t c = λ whole a b path site same distinct over stands along.
    let p = c.args.progress.now in
    let now : Ty → Ty = resolved p.table.realizations in
    agrees_same _ _ c.share_functions.result whole c.share_functions.new.progress
    (type_shared a b path c.args.token site (state_of p) now whole c.args.other.entries.now c.args.entry.now along c.in-Tycon.entry c.in-Some.found.now c.in-Tycon.is distinct stands
    (sym (c.in-Some.ensures.value ∙ ap (λ id. type_in id c.args.other.entries.now) c.as_slice.ensures.value)))
    (c.share_functions.ensures.outcome site whole same over)

pub share_entry-returns-in-Value-clause-grew : goal.share_entry-returns-in-Value-clause-grew
share_entry-returns-in-Value-clause-grew t c = grew_itself _ _

pub share_entry-returns-in-Value-clause-outcome : goal.share_entry-returns-in-Value-clause-outcome
share_entry-returns-in-Value-clause-outcome t c = λ whole a b path site same distinct over stands along.
    let p = c.args.progress.now in
    let now : Ty → Ty = resolved p.table.realizations in
    value_shared a b path c.args.token site (state_of p) now whole c.args.other.entries.now c.args.entry.now along _ c.in-Value.is

pub share_entry-returns-in-None-find_structure-clause-grew : goal.share_entry-returns-in-None-find_structure-clause-grew
share_entry-returns-in-None-find_structure-clause-grew t c = grew_itself _ _

pub share_entry-returns-in-None-find_structure-clause-outcome : goal.share_entry-returns-in-None-find_structure-clause-outcome
share_entry-returns-in-None-find_structure-clause-outcome t c = λ whole a b path site same distinct over stands along.
    let p = c.args.progress.now in
    let now : Ty → Ty = resolved p.table.realizations in
    structure_missing a b path c.args.token site (state_of p) now whole c.args.other.entries.now c.args.entry.now along c.in-Structure.id c.in-Structure.entries c.in-Structure.is
    (sym (c.in-None-find_structure.ensures.value ∙ ap (λ id. structure_in id c.args.other.entries.now) c.as_slice-in-Structure.ensures.value))

pub share_entry-returns-in-Some-find_structure-clause-outcome : goal.share_entry-returns-in-Some-find_structure-clause-outcome
share_entry-returns-in-Some-find_structure-clause-outcome t c = λ whole a b path site same distinct over stands along.
    let p = c.args.progress.now in
    let now : Ty → Ty = resolved p.table.realizations in
    let other = c.args.other.entries.now in
    let id = c.in-Structure.id in
    let entries = c.as_slice-in-Some-find_structure.ensures.value in
    agrees_same _ _ c.share_all.result whole c.share_all.new.progress
    (structure_shared a b path c.args.token site (state_of p) now whole other c.args.entry.now along id c.in-Structure.entries c.in-Structure.is
    ∙ ap (λ es. paths_shared a b c.args.token (paths_from (path ++ id ∷ []) es) site (body_at p whole) (state_of p)) (sym entries))
    (c.share_all.ensures.outcome whole a b (path ++ id ∷ []) site same distinct over
    (inner_along a b path c.args.token site (state_of p) now whole other c.args.entry.now along id c.in-Structure.entries c.in-Structure.is distinct stands ∙ ap Some (sym entries))
    (other_along a b path c.args.token site (state_of p) now whole other c.args.entry.now along id c.in-Some-find_structure.inner.entries.now
    (sym (c.in-Some-find_structure.ensures.value ∙ ap (λ name. structure_in name other) c.as_slice-in-Structure.ensures.value))))

-- ---- what is shared is the same afterwards
pub share_all-returns-clause-same : goal.share_all-returns-clause-same
share_all-returns-clause-same t c =
    let rs = c.loop-entry.progress.table.realizations in
    let other = c.args.other.entries.now in
    all_along (AreSame rs) (nothing_same rs) c.args.entries.now other
    (subst (All (λ e. AreShared rs (e ∷ []) other)) (take_all c.loop-entry.entry-index c.args.entries.now c.loop-entry-test.false) c.loop-entry.invariant.same)

pub share_entry-returns-in-None-clause-same : goal.share_entry-returns-in-None-clause-same
share_entry-returns-in-None-clause-same t c =
    let rs = c.args.progress.now.table.realizations in
    let other = c.args.other.entries.now in
    let type = c.in-Tycon.entry in
    type_here (AreSame rs) (nothing_same rs) type other c.args.entry.now c.in-Tycon.is
    (subst (AreSame rs (Some type)) (c.in-None.ensures.value ∙ ap (λ id. type_in id other) c.as_slice.ensures.value) tt)

pub share_entry-returns-in-Some-clause-same : goal.share_entry-returns-in-Some-clause-same
share_entry-returns-in-Some-clause-same t c =
    let rs = c.share_functions.new.progress.table.realizations in
    let other = c.args.other.entries.now in
    let type = c.in-Tycon.entry in
    ok_then c.share_functions.result
    (λ same. type_here (AreSame rs) (nothing_same rs) type other c.args.entry.now c.in-Tycon.is
    (subst (AreSame rs (Some type)) (c.in-Some.ensures.value ∙ ap (λ id. type_in id other) c.as_slice.ensures.value) same))
    c.share_functions.ensures.same

pub share_entry-returns-in-Value-clause-same : goal.share_entry-returns-in-Value-clause-same
share_entry-returns-in-Value-clause-same t c =
    let rs = c.args.progress.now.table.realizations in
    value_here (AreSame rs) (nothing_same rs) _ c.args.other.entries.now c.args.entry.now c.in-Value.is

pub share_entry-returns-in-None-find_structure-clause-same : goal.share_entry-returns-in-None-find_structure-clause-same
share_entry-returns-in-None-find_structure-clause-same t c =
    let rs = c.args.progress.now.table.realizations in
    let other = c.args.other.entries.now in
    let entries = c.in-Structure.entries in
    structure_here (AreSame rs) (nothing_same rs) c.in-Structure.id entries other c.args.entry.now c.in-Structure.is
    (λ path. subst (λ o. AreSame rs (entry_along path entries) (option_and_then (entry_along path) o))
    (c.in-None-find_structure.ensures.value ∙ ap (λ id. structure_in id other) c.as_slice-in-Structure.ensures.value) (same_nothing rs (entry_along path entries)))

pub share_entry-returns-in-Some-find_structure-clause-same : goal.share_entry-returns-in-Some-find_structure-clause-same
share_entry-returns-in-Some-find_structure-clause-same t c =
    let rs = c.share_all.new.progress.table.realizations in
    let other = c.args.other.entries.now in
    let entries = c.in-Structure.entries in
    let inner = c.in-Some-find_structure.inner.entries.now in
    ok_then c.share_all.result
    (λ same. structure_here (AreSame rs) (nothing_same rs) c.in-Structure.id entries other c.args.entry.now c.in-Structure.is
    (λ path. subst (λ o. AreSame rs (entry_along path entries) (option_and_then (entry_along path) o))
    (c.in-Some-find_structure.ensures.value ∙ ap (λ id. structure_in id other) c.as_slice-in-Structure.ensures.value)
    (subst (λ es. AreShared rs es inner) c.as_slice-in-Some-find_structure.ensures.value same path)))
    c.share_all.ensures.same
