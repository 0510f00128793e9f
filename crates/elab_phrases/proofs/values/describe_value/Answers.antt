use Rattle.std.proofs.Common.{◌≡◌, true, false, nat_le, Ok, refl, sym, ◌∙◌}
use Rattle.std.proofs.lemmas.Result.{on_ok_weaker}
use Rattle.sig_parser.specs.declared.tree.ValDesc.{ValDesc}
use Rattle.type_core.specs.declared.member.Kind.TheVariants.{Val}
use Rattle.type_core.specs.declared.ty.Ty.{Ty}
use Rattle.type_core.specs.NormalSize.{normal_size_of}
use Rattle.elab_rules.specs.declared.refusal.Why.TheVariants.{Duplicate, NormalTooLarge}
use Rattle.elab_rules.specs.Bodies.{Site, added}
use Rattle.elab_rules.specs.Environments.{Environment, is_new_value, the_value}
use Rattle.elab_types.specs.Outcome.{and_then, failed}
use Rattle.elab_types.specs.Sources.{text_at}
use Rattle.elab_rules.specs.States.{State}
use Rattle.elab_rules.specs.Types.{typed}
use Rattle.elab_rules.specs.Values.{closed_value, normal_limited, value_described, value_place}
use Rattle.elab_rules.specs.Views.{body_at, site_at, state_of}
use Rattle.elab_phrases.proofs.Phrases.{added_mentions, new_value_by_now, part_ends}
use Rattle.elab_phrases.proofs.Stands.{stands_mentions}
use Rattle.elab_phrases.proofs.Staying.{mentions_twice}
use Rattle.elab_phrases.proofs.Turns.{body_same}
use Rattle.elab_phrases.proofs.values.describe_value.Goals as goal

module _ (value : ValDesc) (site : Site) (own : Environment) (s : State) where
  is_described_again : is_new_value (text_at site.texts value.id) own ≡ false → value_described value site own s ≡ failed Duplicate value.id
  is_described_again again = rw again refl

  module _ (new : is_new_value (text_at site.texts value.id) own ≡ true) where
    begins_with_type : value_described value site own s
        ≡ and_then (typed value.ty.ty (value_place site value.ty.first own) s) (λ r.
        normal_limited value.ty.first r.0 (added site (the_value (closed_value (text_at site.texts value.id) Val r.0)) value.id own r.1))
    begins_with_type = rw new refl

    is_too_large : (t : Ty) (after : State) → typed value.ty.ty (value_place site value.ty.first own) s ≡ Ok (t, after) → nat_le (normal_size_of t) 8000 ≡ false → value_described value site own s ≡ failed NormalTooLarge value.ty.first
    is_too_large t after ok large = rw (new, ok, large) refl

    is_added : (t : Ty) (after : State) → typed value.ty.ty (value_place site value.ty.first own) s ≡ Ok (t, after) → nat_le (normal_size_of t) 8000 ≡ true
        → value_described value site own s ≡ added site (the_value (closed_value (text_at site.texts value.id) Val t)) value.id own after
    is_added t after ok small = rw (new, ok, small) refl

pub returns-then-not-is_new_value-clause-outcome : goal.returns-then-not-is_new_value-clause-outcome
returns-then-not-is_new_value-clause-outcome c =
    let p = c.args.progress.now in
    is_described_again c.args.value.now (site_at p c.args.site.now) (body_at p c.args.own.entries.items) (state_of p)
    (new_value_by_now p _ _ _ _ _ c.text.ensures.value c.scope.ensures.value c.is_new_value.ensures.value ∙ c.if-not-is_new_value.true)

pub returns-in_err-t-clause-outcome : goal.returns-in_err-t-clause-outcome
returns-in_err-t-clause-outcome c =
    let p = c.args.progress.now in
    part_ends _ _ _ _ _ _ _
    (begins_with_type c.args.value.now (site_at p c.args.site.now) (body_at p c.args.own.entries.items) (state_of p)
    (new_value_by_now p _ _ _ _ _ c.text.ensures.value c.scope.ensures.value c.is_new_value.ensures.value ∙ c.if-not-is_new_value.false))
    c.from_residual.ensures.1 c.in_err-t.ensures.outcome

pub returns-then-not-is_normal_small-clause-outcome : goal.returns-then-not-is_normal_small-clause-outcome
returns-then-not-is_normal_small-clause-outcome c =
    let p = c.args.progress.now in
    is_too_large c.args.value.now (site_at p c.args.site.now) (body_at p c.args.own.entries.items) (state_of p)
    (new_value_by_now p _ _ _ _ _ c.text.ensures.value c.scope.ensures.value c.is_new_value.ensures.value ∙ c.if-not-is_new_value.false)
    _ _ c.in_ok-t.ensures.outcome (sym c.is_normal_small.ensures.value ∙ c.if-not-is_normal_small.true)

pub add_closed-requires-clause-stands : goal.add_closed-requires-clause-stands
add_closed-requires-clause-stands c = stands_mentions _ c.args.progress.now _ c.args.site.now _ c.in_ok-t.ensures.mentions c.requires.stands

pub returns-clause-outcome : goal.returns-clause-outcome
returns-clause-outcome c =
    let p = c.args.progress.now in
    body_same _ _ _ _
    (is_added c.args.value.now (site_at p c.args.site.now) (body_at p c.args.own.entries.items) (state_of p)
    (new_value_by_now p _ _ _ _ _ c.text.ensures.value c.scope.ensures.value c.is_new_value.ensures.value ∙ c.if-not-is_new_value.false)
    _ _ c.in_ok-t.ensures.outcome (sym c.is_normal_small.ensures.value ∙ c.if-not-is_normal_small.false)
    ∙ added_mentions p c.type_of_value.new.progress c.args.site.now c.args.own.entries.items _ _ _ c.in_ok-t.ensures.mentions)
    c.add_closed.ensures.outcome

pub returns-clause-mentions : goal.returns-clause-mentions
returns-clause-mentions c = on_ok_weaker _ (mentions_twice _ _ _ c.in_ok-t.ensures.mentions) c.add_closed.ensures.mentions
