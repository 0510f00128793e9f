use Rattle.std.proofs.Common.{◌≡◌, ℕ, true, false, refl, sym, ap, ◌∙◌}
use Rattle.elab_rules.specs.declared.entry.ValueEntry.{ValueEntry}
use Rattle.elab_rules.specs.declared.refusal.Why.TheVariants.{Duplicate}
use Rattle.elab_rules.specs.Bodies.{Site, added}
use Rattle.elab_rules.specs.Environments.{Environment, is_new_value, the_value}
use Rattle.elab_types.specs.Outcome.{failed}
use Rattle.elab_rules.specs.Replications.{value_copied}
use Rattle.elab_rules.specs.States.{State}
use Rattle.elab_rules.specs.Views.{body_at, site_at, state_of}
use Rattle.elab_phrases.proofs.Phrases.{new_value_by_now}
use Rattle.elab_phrases.proofs.Turns.{body_same}
use Rattle.elab_phrases.proofs.replicas.copy_constructor.Goals as goal

module _ (token : ℕ) (value : ValueEntry) (site : Site) (own : Environment) (s : State) where
  is_there_already : is_new_value value.id own ≡ false → value_copied token value site own s ≡ failed Duplicate token
  is_there_already again = rw again refl

  is_added : (copy : ValueEntry) → is_new_value value.id own ≡ true → copy ≡ value → value_copied token value site own s ≡ added site (the_value copy) token own s
  is_added copy new same = rw new (ap (λ v. added site (the_value v) token own s) (sym same))

pub returns-then-not-is_new_value-clause-outcome : goal.returns-then-not-is_new_value-clause-outcome
returns-then-not-is_new_value-clause-outcome c =
    let p = c.args.progress.now in
    is_there_already c.args.token c.args.value.now (site_at p c.args.site.now) (body_at p c.args.own.entries.items) (state_of p)
    (new_value_by_now p _ _ _ _ _ c.as_slice.ensures.value c.scope.ensures.value c.is_new_value.ensures.value ∙ c.if-not-is_new_value.true)

pub returns-clause-outcome : goal.returns-clause-outcome
returns-clause-outcome c =
    let p = c.args.progress.now in
    body_same _ _ _ _
    (is_added c.args.token c.args.value.now (site_at p c.args.site.now) (body_at p c.args.own.entries.items) (state_of p) _
    (new_value_by_now p _ _ _ _ _ c.as_slice.ensures.value c.scope.ensures.value c.is_new_value.ensures.value ∙ c.if-not-is_new_value.false)
    c.in_ok-value.ensures.value)
    c.add_value.ensures.outcome
