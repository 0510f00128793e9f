use Rattle.std.proofs.Common.{◌≡◌, ℕ, ◌+◌, ◌<◌, ◌≤◌, List, [], length, take, nat_le, true, false, Result, Ok, Err, IsErrAnd, refl, sym, ap, ◌∙◌, arith}
use Rattle.std.proofs.lemmas.Bool.{le-leb, lt-leb}
use Rattle.std.proofs.lemmas.Result.{on_ok_weaker}
use Rattle.sig_parser.specs.declared.tree.TypeDesc.{TypeDesc}
use Rattle.type_core.specs.declared.names.Equality.{Equality}
use Rattle.type_core.specs.declared.ty.VarId.{VarId}
use Rattle.type_core.specs.declared.type_fn.TypeFn.{TypeFn}
use Rattle.elab_rules.specs.declared.body.Body.{Body}
use Rattle.elab_rules.specs.declared.progress.Progress.{Progress}
use Rattle.elab_rules.specs.declared.refusal.ElabRefusal.{ElabRefusal}
use Rattle.elab_rules.specs.declared.refusal.Why.TheVariants.{Duplicate, TypeTooLarge}
use Rattle.elab_rules.specs.Bodies.{Site, added}
use Rattle.elab_rules.specs.Environments.{Environment, is_new_type, the_type}
use Rattle.elab_rules.specs.Outcome.{GivesWith}
use Rattle.elab_types.specs.Outcome.{and_then, failed}
use Rattle.elab_rules.specs.Parameters.{parameters_checked, variables_at}
use Rattle.elab_types.specs.Sources.{text_at}
use Rattle.elab_rules.specs.States.{State}
use Rattle.elab_rules.specs.TypeDescriptions.{plain_type, right_side, type_described}
use Rattle.elab_rules.specs.Views.{GivesBody, body_at, site_at, state_of}
use Rattle.elab_rules.proofs.Outcomes.{gives_same}
use Rattle.elab_phrases.proofs.Phrases.{added_mentions, new_type_by_now, part_ends}
use Rattle.elab_phrases.proofs.Stands.{stands_mentions}
use Rattle.elab_phrases.proofs.Staying.{mentions_twice}
use Rattle.elab_phrases.proofs.Turns.{body_same}
use Rattle.elab_phrases.proofs.TypeGroups.{type_is}
use Rattle.elab_phrases.proofs.type_descriptions.describe_type.Goals as goal

right_same : (equality : Equality) (d : TypeDesc) (before : Environment) (site : Site) (s : State) (text items : List ℕ) (vs given : List VarId)
    → text ≡ text_at site.texts d.id → items ≡ d.params → vs ≡ variables_at site.texts items → given ≡ vs
    → right_side d.rhs (text_at site.texts d.id) equality (variables_at site.texts d.params) site before s ≡ right_side d.rhs text equality given site before s
right_same equality d before site s text items vs given named same listed handed =
    ap (λ x. right_side d.rhs x equality (variables_at site.texts d.params) site before s) (sym named)
    ∙ ap (λ x. right_side d.rhs text equality x site before s) (sym (handed ∙ listed ∙ ap (variables_at site.texts) same))

module _ (equality : Equality) (d : TypeDesc) (before : Environment) (site : Site) (own : Environment) (s : State) (tokens : List ℕ) (done : Unit {0}) (same : tokens ≡ d.params) (ok : parameters_checked site.texts [] tokens ≡ Ok done) where
  all_checked : parameters_checked site.texts [] d.params ≡ Ok done
  all_checked = ap (parameters_checked site.texts []) (sym same) ∙ ok

  is_described_again : is_new_type (text_at site.texts d.id) own ≡ false → type_described equality d before site own s ≡ failed Duplicate d.id
  is_described_again again = rw (all_checked, again) refl

  module _ (count : ℕ) (new : is_new_type (text_at site.texts d.id) own ≡ true) (counted : count ≡ length d.params) where
    has_too_many : 2000 ≤ count → type_described equality d before site own s ≡ failed TypeTooLarge d.id
    has_too_many large = let over : nat_le (1 + length d.params) 2000 ≡ false = lt-leb _ _ (omega (arith, counted, large)) in rw (all_checked, new, over) refl

    begins_with_right_side : count < 2000
        → type_described equality d before site own s
        ≡ and_then (right_side d.rhs (text_at site.texts d.id) equality (variables_at site.texts d.params) site before s) (λ r. added site (the_type (plain_type (text_at site.texts d.id) r.0)) d.id own r.1)
    begins_with_right_side few = let fits : nat_le (1 + length d.params) 2000 ≡ true = le-leb _ _ (omega (arith, counted, few)) in rw (all_checked, new, fits) refl

    right_side_fails : (result : Result Body ElabRefusal) (e : ElabRefusal) (p : Progress) (after : State) (text items : List ℕ) (vs given : List VarId) → count < 2000
        → text ≡ text_at site.texts d.id → items ≡ d.params → vs ≡ variables_at site.texts items → given ≡ vs
        → IsErrAnd result (λ other. other ≡ e) → GivesWith {A = TypeFn} (right_side d.rhs text equality given site before s) (Err e) after → GivesBody (type_described equality d before site own s) result p
    right_side_fails result e p after text items vs given few named listed met handed failed gives =
        part_ends {A = TypeFn} (right_side d.rhs (text_at site.texts d.id) equality (variables_at site.texts d.params) site before s)
        (λ r. added site (the_type (plain_type (text_at site.texts d.id) r.0)) d.id own r.1) (type_described equality d before site own s) result e after p (begins_with_right_side few) failed
        (gives_same {A = TypeFn} _ (right_side d.rhs text equality given site before s) (Err e) after (right_same equality d before site s text items vs given named listed met handed) gives)

pub returns-then-not-is_new_type-clause-outcome : goal.returns-then-not-is_new_type-clause-outcome
returns-then-not-is_new_type-clause-outcome c =
    let p = c.args.progress.now in
    is_described_again c.args.equality c.args.desc.now _ (site_at p c.args.site.now) (body_at p c.args.own.entries.items) (state_of p) _ _ c.as_slice.ensures.value c.in_ok-check_parameters.ensures.outcome
    (new_type_by_now p _ _ _ _ _ c.text-text.ensures.value c.scope.ensures.value c.is_new_type.ensures.value ∙ c.if-not-is_new_type.true)

pub returns-then-len-ge-MAX_NODES-clause-outcome : goal.returns-then-len-ge-MAX_NODES-clause-outcome
returns-then-len-ge-MAX_NODES-clause-outcome c =
    let p = c.args.progress.now in
    has_too_many c.args.equality c.args.desc.now _ (site_at p c.args.site.now) (body_at p c.args.own.entries.items) (state_of p) _ _ c.as_slice.ensures.value c.in_ok-check_parameters.ensures.outcome _
    (new_type_by_now p _ _ _ _ _ c.text-text.ensures.value c.scope.ensures.value c.is_new_type.ensures.value ∙ c.if-not-is_new_type.false) c.len.ensures.value c.if-len-ge-MAX_NODES.true

pub returns-in_err-fun-clause-outcome : goal.returns-in_err-fun-clause-outcome
returns-in_err-fun-clause-outcome c =
    let p = c.args.progress.now in
    right_side_fails c.args.equality c.args.desc.now (body_at p (take c.args.before c.args.own.entries.items)) (site_at p c.args.site.now) (body_at p c.args.own.entries.items) (state_of p) _ _ c.as_slice.ensures.value c.in_ok-check_parameters.ensures.outcome
    _ (new_type_by_now p _ _ _ _ _ c.text-text.ensures.value c.scope.ensures.value c.is_new_type.ensures.value ∙ c.if-not-is_new_type.false) c.len.ensures.value
    _ _ c.right_side.new.progress (state_of c.right_side.new.progress) _ _ _ _ c.if-len-ge-MAX_NODES.false c.text-text.ensures.value c.as_slice-2.ensures.value c.in_ok-parameters.ensures.value c.as_slice-3.ensures.value
    c.from_residual-in_err-fun.ensures.1 c.in_err-fun.ensures.outcome

pub add_plain-requires-clause-stands : goal.add_plain-requires-clause-stands
add_plain-requires-clause-stands c = stands_mentions _ c.args.progress.now _ c.args.site.now _ c.in_ok-fun.ensures.mentions c.requires.stands

pub returns-clause-outcome : goal.returns-clause-outcome
returns-clause-outcome c =
    let p = c.args.progress.now in
    body_same _ _ _ _
    (type_is c.args.equality c.args.desc.now _ (site_at p c.args.site.now) (body_at p c.args.own.entries.items) _ _ _ _ _ _ _ _ _ _ _ c.as_slice.ensures.value c.in_ok-check_parameters.ensures.outcome c.text-text.ensures.value
    (sym (new_type_by_now p _ _ _ _ _ refl c.scope.ensures.value c.is_new_type.ensures.value)) c.if-not-is_new_type.false c.len.ensures.value c.if-len-ge-MAX_NODES.false
    c.as_slice-2.ensures.value c.in_ok-parameters.ensures.value c.as_slice-3.ensures.value c.in_ok-fun.ensures.outcome
    ∙ added_mentions p c.right_side.new.progress c.args.site.now c.args.own.entries.items _ _ _ c.in_ok-fun.ensures.mentions)
    c.add_plain.ensures.outcome

pub returns-clause-mentions : goal.returns-clause-mentions
returns-clause-mentions c = on_ok_weaker _ (mentions_twice _ _ _ c.in_ok-fun.ensures.mentions) c.add_plain.ensures.mentions
