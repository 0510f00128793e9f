use Rattle.std.proofs.Common.{◌≡◌, ◌==◌, ◌||◌, true, false, not, is_some, refl, sym, ap, ap₂, ◌∙◌, subst, arith, rules}
use Rattle.std.proofs.lemmas.Bool.{eq-eqb}
use Rattle.std.proofs.lemmas.Result.{IfOk-weaker}
use Rattle.elab_env.specs.declared.realization.Realization.{Realization}
use Rattle.elab_env.specs.Names.{arity_of}
use Rattle.elab_env.proofs.Kept.{described_within, free_described}
use Rattle.elab_rules.specs.declared.progress.Progress.{Progress}
use Rattle.elab_rules.specs.Replacing.{denoted}
use Rattle.elab_rules.specs.Standing.{AreOver}
use Rattle.elab_rules.specs.Views.{body_at, entries_at, state_of}
use Rattle.elab_rules.specs.Wheres.{has_constructors, within_limits}
use Rattle.elab_phrases.proofs.EntriesByNow.{by_now_settled}
use Rattle.elab_realizing.proofs.Limited.{arity_clash, may_realize, needs_equality, no_realization}
use Rattle.elab_realizing.proofs.PartsApplied.{always_ok}
use Rattle.elab_realizing.proofs.RealizedNow.{IsRealized, entries_realized, state_realized}
use Rattle.elab_phrases.proofs.Turns.{body_same}
use Rattle.elab_realizing.proofs.wheres.realize.Goals as goal

pub name-requires : goal.name-requires
name-requires c = record { within = described_within c.args.progress.now.table.names c.args.name.0 (free_described c.args.progress.now.table c.args.name.0 c.requires.free) }

pub returns-then-fun-name-clause-outcome : goal.returns-then-fun-name-clause-outcome
returns-then-fun-name-clause-outcome c =
    let p = c.args.progress.now in
    let differs : (c.args.fun.arity == c.name.result.now.arity) ≡ false = search rules in
    arity_clash c.args.name.0 c.args.fun c.args.token (body_at p c.args.env.entries.items) (state_of p) (ap (λ a. c.args.fun.arity == a) (ap arity_of c.name.ensures.value) ∙ differs)

pub returns-then-not-branch-clause-outcome : goal.returns-then-not-branch-clause-outcome
returns-then-not-branch-clause-outcome c =
    let p = c.args.progress.now in
    let n = c.args.name.0 in
    let f = c.args.fun in
    let same : c.args.fun.arity ≡ c.name.result.now.arity = omega arith in
    let refused : c.in_ok-may_have_constructors.field-0 ≡ false = search rules in
    no_realization n f c.args.token (body_at p c.args.env.entries.items) (state_of p) (eq-eqb _ _ (same ∙ sym (ap arity_of c.name.ensures.value)))
    (sym (c.in_ok-may_have_constructors.ensures.value ∙ ap (λ es. not (has_constructors n (entries_at p.table es)) || is_some (denoted f)) c.as_slice-entries.ensures.value) ∙ refused)

pub returns-then-not-keeps_equality-clause-outcome : goal.returns-then-not-keeps_equality-clause-outcome
returns-then-not-keeps_equality-clause-outcome c =
    let p = c.args.progress.now in
    let n = c.args.name.0 in
    let f = c.args.fun in
    let same : c.args.fun.arity ≡ c.name.result.now.arity = omega arith in
    let allowed : c.in_ok-may_have_constructors.field-0 ≡ true = search rules in
    let refused : c.keeps_equality.result ≡ false = search rules in
    needs_equality n f c.args.token (body_at p c.args.env.entries.items) (state_of p) (eq-eqb _ _ (same ∙ sym (ap arity_of c.name.ensures.value)))
    (sym (c.in_ok-may_have_constructors.ensures.value ∙ ap (λ es. not (has_constructors n (entries_at p.table es)) || is_some (denoted f)) c.as_slice-entries.ensures.value) ∙ allowed)
    (sym c.keeps_equality.ensures.value ∙ refused)

pub replace-requires-clause-arity : goal.replace-requires-clause-arity
replace-requires-clause-arity c =
    let same : c.args.fun.arity ≡ c.name.result.now.arity = omega arith in
    same ∙ sym (ap arity_of c.name.ensures.value)

pub limited_by_now-requires : goal.limited_by_now-requires
limited_by_now-requires c = record { over = subst (λ names. AreOver names c.args.env.entries.items) (sym c.in_ok-replace.ensures.names) c.requires.over }

pub returns-clause-outcome : goal.returns-clause-outcome
returns-clause-outcome c =
    let p = c.args.progress.now in
    let n = c.args.name.0 in
    let f = c.args.fun in
    let q : Progress = record p { table = c.replace.new.table } in
    let r : Realization = record { name = c.args.name; fun = f } in
    let h : IsRealized r p q = record { sound = c.is_sound.ensures.sound; names = c.in_ok-replace.ensures.names; realizations = c.in_ok-replace.ensures.realizations; weight = refl } in
    let same : c.args.fun.arity ≡ c.name.result.now.arity = omega arith in
    let allowed : c.in_ok-may_have_constructors.field-0 ≡ true = search rules in
    let kept : c.keeps_equality.result ≡ true = search rules in
    body_same _ _ _ q
    (may_realize n f c.args.token (body_at p c.args.env.entries.items) (state_of p) (eq-eqb _ _ (same ∙ sym (ap arity_of c.name.ensures.value)))
    (sym (c.in_ok-may_have_constructors.ensures.value ∙ ap (λ es. not (has_constructors n (entries_at p.table es)) || is_some (denoted f)) c.as_slice-entries.ensures.value) ∙ allowed)
    (sym c.keeps_equality.ensures.value ∙ kept)
    ∙ sym (ap₂ (within_limits c.args.token) (entries_realized r p q h c.args.env.entries.items c.requires.over) (state_realized r p q h)))
    (c.limited_by_now.ensures.outcome q refl)

pub returns-clause-over : goal.returns-clause-over
returns-clause-over c =
    let p = c.args.progress.now in
    let table = c.replace.new.table in
    let over : AreOver table.names c.args.env.entries.items = subst (λ names. AreOver names c.args.env.entries.items) (sym c.in_ok-replace.ensures.names) c.requires.over in
    IfOk-weaker c.limited_by_now.result _ _ (λ body is. subst (AreOver table.names) (sym is) (by_now_settled table c.args.env.entries.items c.is_sound.ensures.sound over).over) c.limited_by_now.ensures.value

pub returns-clause-names : goal.returns-clause-names
returns-clause-names c = always_ok c.limited_by_now.result c.in_ok-replace.ensures.names

pub returns-clause-realizations : goal.returns-clause-realizations
returns-clause-realizations c = always_ok c.limited_by_now.result c.in_ok-replace.ensures.realizations

pub returns-clause-firsts : goal.returns-clause-firsts
returns-clause-firsts c = always_ok c.limited_by_now.result refl

pub returns-clause-external : goal.returns-clause-external
returns-clause-external c = always_ok c.limited_by_now.result refl
