use Rattle.std.proofs.Common.{◌≡◌, ℕ, true, false, List, Some, None, Result, Ok, Err, IsErrAnd, refl, sym, ap, ap₂, ◌∙◌, subst}
use Rattle.std.specs.List.{All}
use Rattle.std.proofs.lemmas.Result.{on_ok_weaker}
use Rattle.elab_rules.specs.declared.body.Body.{Body}
use Rattle.elab_rules.specs.declared.entry.TypeEntry.{TypeEntry}
use Rattle.elab_rules.specs.declared.entry.ValueEntry.{ValueEntry}
use Rattle.elab_rules.specs.declared.progress.Progress.{Progress}
use Rattle.elab_rules.specs.declared.refusal.ElabRefusal.{ElabRefusal}
use Rattle.elab_rules.specs.declared.refusal.Why.TheVariants.{Duplicate, Unbound}
use Rattle.elab_rules.specs.Bodies.{Site, added, in_turn}
use Rattle.elab_rules.specs.Environments.{Environment, is_new_type, the_type}
use Rattle.elab_rules.specs.LongIdentifiers.{Found}
use Rattle.elab_rules.specs.LookUps.{datatype_at}
use Rattle.elab_types.specs.Outcome.{and_then, failed}
use Rattle.elab_rules.specs.Replications.{replica, replica_described, value_copied}
use Rattle.elab_types.specs.Sources.{text_at}
use Rattle.elab_rules.specs.Standing.{IsSettledScheme}
use Rattle.elab_rules.specs.States.{State}
use Rattle.elab_rules.specs.Views.{GivesBody, body_at, site_at, state_of}
use Rattle.elab_phrases.proofs.DatatypesByNow.{datatype_found, found_now, found_over, is_replica, no_datatype, values_now}
use Rattle.elab_phrases.proofs.Phrases.{new_type_by_now}
use Rattle.elab_phrases.proofs.Sites.{site_mentions}
use Rattle.elab_phrases.proofs.Stands.{schemes_mentions}
use Rattle.elab_phrases.proofs.Staying.{mentions_twice}
use Rattle.elab_phrases.proofs.Turns.{body_same, ends}
use Rattle.elab_phrases.proofs.replicas.describe_replica.Goals as goal

module _ (id other : ℕ) (site : Site) (own : Environment) (s : State) where
  is_described_again : is_new_type (text_at site.texts id) own ≡ false → replica_described id other site own s ≡ failed Duplicate id
  is_described_again again = rw again refl

  module _ (new : is_new_type (text_at site.texts id) own ≡ true) where
    is_unbound : datatype_at other site own ≡ None → replica_described id other site own s ≡ failed Unbound other
    is_unbound none = rw (new, none) refl

    module _ (found : Found) (entry : TypeEntry) (values : List ValueEntry) (is : datatype_at other site own ≡ Some found) (copied : entry ≡ replica (text_at site.texts id) found.entry) (listed : values ≡ found.constructors) where
      copies : replica_described id other site own s ≡ and_then (added site (the_type entry) other own s) (λ r. in_turn (value_copied other) values site r.0 r.1)
      copies =
          let whole : replica_described id other site own s ≡ and_then (added site (the_type (replica (text_at site.texts id) found.entry)) other own s) (λ r. in_turn (value_copied other) found.constructors site r.0 r.1) = rw (new, is) refl in
          whole ∙ ap₂ (λ e vs. and_then (added site (the_type e) other own s) (λ r. in_turn (value_copied other) vs site r.0 r.1)) (sym copied) (sym listed)

      type_fails : (result : Result Body ElabRefusal) (e : ElabRefusal) (p : Progress) → IsErrAnd result (λ x. x ≡ e) → GivesBody (added site (the_type entry) other own s) (Err e) p → GivesBody (replica_described id other site own s) result p
      type_fails result e p handed gives =
          ends (added site (the_type entry) other own s) (λ r. in_turn (value_copied other) values site r.0 r.1) (replica_described id other site own s) result e p (sym copies) handed gives

      type_is_added : (next : Site) (env : Environment) (t : State) → added site (the_type entry) other own s ≡ Ok (env, t) → next ≡ site → replica_described id other site own s ≡ in_turn (value_copied other) values next env t
      type_is_added next env t ok same =
          copies ∙ ap (λ o. and_then o (λ r. in_turn (value_copied other) values site r.0 r.1)) ok ∙ ap (λ at. in_turn (value_copied other) values at env t) (sym same)

pub returns-then-not-is_new_type-clause-outcome : goal.returns-then-not-is_new_type-clause-outcome
returns-then-not-is_new_type-clause-outcome c =
    let p = c.args.progress.now in
    is_described_again c.args.id c.args.other (site_at p c.args.site.now) (body_at p c.args.own.entries.items) (state_of p)
    (new_type_by_now p _ _ _ _ _ c.text-text.ensures.value c.scope.ensures.value c.is_new_type.ensures.value ∙ c.if-not-is_new_type.true)

pub returns-in_default-clause-outcome : goal.returns-in_default-clause-outcome
returns-in_default-clause-outcome c =
    let p = c.args.progress.now in
    is_unbound c.args.id c.args.other (site_at p c.args.site.now) (body_at p c.args.own.entries.items) (state_of p)
    (new_type_by_now p _ _ _ _ _ c.text-text.ensures.value c.scope.ensures.value c.is_new_type.ensures.value ∙ c.if-not-is_new_type.false)
    (no_datatype p c.args.site.now c.args.own.entries.items c.is_sound.ensures.sound c.requires.stands.sees _ c.scope-2.ensures.value c.args.other c.in_default.ensures.value)

pub values_by_now-requires : goal.values_by_now-requires
values_by_now-requires c = record { over = (found_over _ _ _ c.is_sound.ensures.sound c.requires.stands.sees _ c.scope-2.ensures.value c.in-Some.found c.in-Some.ensures.over).env }

pub resolved-requires : goal.resolved-requires
resolved-requires c = record { over = (found_over _ _ _ c.is_sound.ensures.sound c.requires.stands.sees _ c.scope-2.ensures.value c.in-Some.found c.in-Some.ensures.over).entry }

pub returns-in_err-body-clause-outcome : goal.returns-in_err-body-clause-outcome
returns-in_err-body-clause-outcome c =
    let p = c.args.progress.now in
    let found = c.in-Some.found in
    type_fails c.args.id c.args.other (site_at p c.args.site.now) (body_at p c.args.own.entries.items) (state_of p)
    (new_type_by_now p _ _ _ _ _ c.text-text.ensures.value c.scope.ensures.value c.is_new_type.ensures.value ∙ c.if-not-is_new_type.false) (found_now p found) _ _
    (datatype_found p c.args.site.now c.args.own.entries.items c.is_sound.ensures.sound c.requires.stands.sees _ c.scope-2.ensures.value c.args.other found c.in-Some.ensures.value)
    (is_replica p found _ c.as_slice-ids.ensures.value _ _ _ c.text-text.ensures.value c.in_ok-from_slice.ensures.value c.in_ok-resolved.ensures.value c.in_ok-copy_texts.ensures.value)
    (values_now p found _ c.as_slice-ids.ensures.value _ c.in_ok-constructors.ensures.value)
    _ _ _ c.from_residual-in_err-body.ensures.1 c.in_err-body.ensures.outcome

pub copy_constructors-requires-clause-settled : goal.copy_constructors-requires-clause-settled
copy_constructors-requires-clause-settled c =
    subst (All (λ (value : ValueEntry). IsSettledScheme c.add_type.new.progress.table value.scheme)) (sym c.as_slice.ensures.value)
    (schemes_mentions c.args.progress.now _ _ c.in_ok-body.ensures.mentions c.in_ok-constructors.ensures.settled)

pub returns-clause-outcome : goal.returns-clause-outcome
returns-clause-outcome c =
    let p = c.args.progress.now in
    let found = c.in-Some.found in
    body_same _ _ _ _
    (type_is_added c.args.id c.args.other (site_at p c.args.site.now) (body_at p c.args.own.entries.items) (state_of p)
    (new_type_by_now p _ _ _ _ _ c.text-text.ensures.value c.scope.ensures.value c.is_new_type.ensures.value ∙ c.if-not-is_new_type.false) (found_now p found) _ _
    (datatype_found p c.args.site.now c.args.own.entries.items c.is_sound.ensures.sound c.requires.stands.sees _ c.scope-2.ensures.value c.args.other found c.in-Some.ensures.value)
    (is_replica p found _ c.as_slice-ids.ensures.value _ _ _ c.text-text.ensures.value c.in_ok-from_slice.ensures.value c.in_ok-resolved.ensures.value c.in_ok-copy_texts.ensures.value)
    (c.as_slice.ensures.value ∙ values_now p found _ c.as_slice-ids.ensures.value _ c.in_ok-constructors.ensures.value)
    _ _ _ c.in_ok-body.ensures.outcome (site_mentions _ _ c.args.site.now c.in_ok-body.ensures.mentions))
    c.copy_constructors.ensures.outcome

pub returns-clause-mentions : goal.returns-clause-mentions
returns-clause-mentions c = on_ok_weaker _ (mentions_twice _ _ _ c.in_ok-body.ensures.mentions) c.copy_constructors.ensures.mentions
