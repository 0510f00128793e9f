use Rattle.std.proofs.Common.{◌≡◌, ℕ, ◌+◌, ◌++◌, List, length, min, take, refl, sym, ap, subst, arith}
use Rattle.elab_env.specs.Table.{Table}
use Rattle.elab_rules.specs.declared.entry.UnitEntry.{UnitEntry}
use Rattle.elab_rules.specs.declared.units.Units.{Units}
use Rattle.sig_elab.specs.Declarations.{declared_ids}
use Rattle.sig_elab.specs.Kept.{AreKept}
use Rattle.elab_rules.specs.Specifications.{Signature, binding_of}
use Rattle.elab_rules.specs.Views.{state_of}
use Rattle.elab_types.specs.Sources.{text_at}
use Rattle.elab_types.specs.Views.{texts}
use Rattle.elab_phrases.proofs.Staying.{grows}
use Rattle.elab_rules.proofs.Levels.{binding_is}
use Rattle.sig_elab.proofs.Bindings.{bound_is, refused_with, second_fails, seen_as, step_failed, third_fails, totals_stay, unit_is}
use Rattle.sig_elab.proofs.UnitsStay.{kept_mentions, kept_more, weighed_mentions}
use Rattle.sig_elab.proofs.declarations.bind_one.Goals as goal

pub right_side-requires-clause-before_kept : goal.right_side-requires-clause-before_kept
right_side-requires-clause-before_kept c = subst (λ (units : Units). AreKept units c.args.draft.progress) (sym c.tops_of-tops.ensures.before) c.args.draft.before_kept

pub right_side-requires-clause-added_kept : goal.right_side-requires-clause-added_kept
right_side-requires-clause-added_kept c = subst (λ (units : Units). AreKept units c.args.draft.progress) (sym c.tops_of-tops.ensures.added) c.args.draft.added_kept

pub unit_of-requires-clause-first : goal.unit_of-requires-clause-first
unit_of-requires-clause-first c =
    omega (arith, c.len-first.ensures.value, grows c.args.draft.progress c.right_side.new.progress (c.in_ok-body.ensures.grew).names, ap (λ (t : Table). length t.names) c.in_ok-weigh.ensures.table)

pub check-requires : goal.check-requires
check-requires c =
    let weighed = weighed_mentions c.right_side.new.progress c.weigh.new.self c.in_ok-weigh.ensures.table c.in_ok-weigh.ensures.firsts c.in_ok-weigh.ensures.external in
    record { tracked = weighed.tracked ((c.in_ok-body.ensures.grew).tracked c.args.draft.tracked) }

pub returns-in_err-weigh-clause-outcome : goal.returns-in_err-weigh-clause-outcome
returns-in_err-weigh-clause-outcome c =
    let d = c.args.declaration.now in
    let draft = c.args.draft in
    let bind = c.args.bind.now in
    let text : List ℕ = text_at (texts d.source) bind.id in
    let seen : List UnitEntry = draft.before.now.entries.items ++ take d.count draft.added.entries.items in
    let units : List UnitEntry = draft.before.now.entries.items ++ draft.added.entries.items in
    let weight : c.saturating_add.result ≡ min (1 + length text) 0xffff_ffff_ffff_ffff = omega (arith, c.saturating_add.ensures, ap length c.text-id.ensures.value) in
    refused_with _ _ _ c.from_residual-in_err-weigh.ensures.1
    (second_fails d.kind (texts d.source) seen (declared_ids d) (binding_of bind) bind.id (ap (λ (b : ℕ × Signature). b.0) (binding_is bind)) units (state_of draft.progress) _ _
    (seen_as _ _ _ _ _ (binding_of bind) _ _ c.tops_of-tops.ensures.value c.in_ok-body.ensures.outcome) _
    (step_failed _ _ _ (c.in_err-weigh.ensures.outcome (1 + length text) weight)))

pub returns-in_err-check-clause-outcome : goal.returns-in_err-check-clause-outcome
returns-in_err-check-clause-outcome c =
    let d = c.args.declaration.now in
    let draft = c.args.draft in
    let bind = c.args.bind.now in
    let text : List ℕ = text_at (texts d.source) bind.id in
    let seen : List UnitEntry = draft.before.now.entries.items ++ take d.count draft.added.entries.items in
    let units : List UnitEntry = draft.before.now.entries.items ++ draft.added.entries.items in
    let weight : c.saturating_add.result ≡ min (1 + length text) 0xffff_ffff_ffff_ffff = omega (arith, c.saturating_add.ensures, ap length c.text-id.ensures.value) in
    refused_with _ _ _ c.from_residual-in_err-check.ensures.1
    (third_fails d.kind (texts d.source) seen (declared_ids d) (binding_of bind) bind.id (ap (λ (b : ℕ × Signature). b.0) (binding_is bind)) units (state_of draft.progress) _ _
    (seen_as _ _ _ _ _ (binding_of bind) _ _ c.tops_of-tops.ensures.value c.in_ok-body.ensures.outcome) _ (c.in_ok-weigh.ensures.outcome (1 + length text) weight) c.in_ok-unit.unit
    (unit_is d.kind _ text c.right_side.new.progress c.weigh.new.self c.in_ok-body.body.entries.items _ _ _ c.in_ok-unit.unit c.in_ok-unit.ensures.unit c.text-id.ensures.value c.in_ok-weigh.ensures.table c.len-first.ensures.value) _
    (step_failed _ _ _ (c.in_err-check.ensures.outcome _ refl (c.in_ok-totals.ensures.more units (state_of draft.progress) (state_of c.weigh.new.self) draft.counted))))

pub invariant_of-result : goal.invariant_of-result
invariant_of-result c =
    let draft = c.args.draft in
    let right = c.right_side.new.progress in
    let after = c.weigh.new.self in
    let weighed = weighed_mentions right after c.in_ok-weigh.ensures.table c.in_ok-weigh.ensures.firsts c.in_ok-weigh.ensures.external in
    let units : List UnitEntry = draft.before.now.entries.items ++ draft.added.entries.items in
    record {
      before_kept = kept_mentions draft.before.now right after weighed (subst (λ (us : Units). AreKept us right) c.tops_of-tops.ensures.before c.in_ok-body.ensures.before_kept);
      added_kept =
          kept_more draft.added c.in_ok-added.added c.in_ok-unit.detail c.in_ok-unit.unit after c.in_ok-added.ensures.pushed c.in_ok-added.ensures.beside c.in_ok-unit.ensures.settled c.in_ok-unit.ensures.own
          (kept_mentions draft.added right after weighed (subst (λ (us : Units). AreKept us right) c.tops_of-tops.ensures.added c.in_ok-body.ensures.added_kept));
      tracked = weighed.tracked ((c.in_ok-body.ensures.grew).tracked draft.tracked);
      counted =
          totals_stay c.in_ok-totals.totals draft.before.now.entries.items draft.added.entries.items _ c.in_ok-unit.unit (state_of after) c.in_ok-added.ensures.pushed
          (c.in_ok-totals.ensures.more units (state_of draft.progress) (state_of after) draft.counted);
    }

pub returns-clause-outcome : goal.returns-clause-outcome
returns-clause-outcome c =
    let d = c.args.declaration.now in
    let draft = c.args.draft in
    let bind = c.args.bind.now in
    let text : List ℕ = text_at (texts d.source) bind.id in
    let seen : List UnitEntry = draft.before.now.entries.items ++ take d.count draft.added.entries.items in
    let units : List UnitEntry = draft.before.now.entries.items ++ draft.added.entries.items in
    let weight : c.saturating_add.result ≡ min (1 + length text) 0xffff_ffff_ffff_ffff = omega (arith, c.saturating_add.ensures, ap length c.text-id.ensures.value) in
    bound_is d.kind (texts d.source) seen (declared_ids d) (binding_of bind) bind.id (ap (λ (b : ℕ × Signature). b.0) (binding_is bind)) units (state_of draft.progress) _ _
    (seen_as _ _ _ _ _ (binding_of bind) _ _ c.tops_of-tops.ensures.value c.in_ok-body.ensures.outcome) _ (c.in_ok-weigh.ensures.outcome (1 + length text) weight) c.in_ok-unit.unit
    (unit_is d.kind _ text c.right_side.new.progress c.weigh.new.self c.in_ok-body.body.entries.items _ _ _ c.in_ok-unit.unit c.in_ok-unit.ensures.unit c.text-id.ensures.value c.in_ok-weigh.ensures.table c.len-first.ensures.value)
    draft.before.now.entries.items draft.added.entries.items _ refl c.in_ok-added.ensures.pushed
    (c.in_ok-check.ensures.outcome _ refl (c.in_ok-totals.ensures.more units (state_of draft.progress) (state_of c.weigh.new.self) draft.counted))
