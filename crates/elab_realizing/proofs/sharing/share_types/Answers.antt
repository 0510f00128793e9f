use Rattle.std.proofs.Common.{◌≡◌, ◌≤◌, ◌∷◌, IsTrue, Ok, slice_get, sym, ap, ◌∙◌, subst}
use Rattle.std.specs.List.{All}
use Rattle.std.proofs.lemmas.List.Elements.{All-cons, All-weaker}
use Rattle.type_core.specs.declared.ty.NameId.{NameId}
use Rattle.elab_env.specs.Names.{arity_of}
use Rattle.elab_env.specs.Table.{is_free}
use Rattle.elab_rules.specs.Sharing.{joined}
use Rattle.elab_rules.specs.Views.{body_at, numbers, site_at, state_of}
use Rattle.elab_realizing.proofs.Agreed.{agrees_failed, fails_on, name_fails, names_fail}
use Rattle.elab_realizing.proofs.NamesShared.{first_token, no_types, others_turn, types_joined, types_turn}
use Rattle.elab_phrases.proofs.Stands.{stands_later}
use Rattle.elab_phrases.proofs.Staying.{grew_itself}
use Rattle.elab_realizing.proofs.sharing.share_types.Goals as goal

pub returns-in_default-clause-outcome : goal.returns-in_default-clause-outcome
returns-in_default-clause-outcome c = no_types c.args.tokens.now _ _ _ c.in_default.len_below

pub returns-in_default-clause-grew : goal.returns-in_default-clause-grew
returns-in_default-clause-grew c = grew_itself _ _

pub returns-in_err-first-clause-outcome : goal.returns-in_err-first-clause-outcome
returns-in_err-first-clause-outcome c =
    let p = c.args.progress.now in
    agrees_failed _ _ _ _ _ c.from_residual.ensures.1
    (fails_on _ _ _ _ (types_turn c.args.tokens.now _ _ (site_at p c.args.site.now) (body_at p c.args.own.entries.now) (state_of p) (first_token c.args.tokens.now c.in-len1-up.len_at_least))
    (name_fails _ _ c.in_err-first.ensures.outcome))

pub returns-in_err-names-clause-outcome : goal.returns-in_err-names-clause-outcome
returns-in_err-names-clause-outcome c =
    let p = c.args.progress.now in
    agrees_failed _ _ _ _ _ c.from_residual-in_err-names.ensures.1
    (fails_on _ _ _ _ (others_turn c.args.tokens.now _ _ (site_at p c.args.site.now) (body_at p c.args.own.entries.now) (state_of p) (first_token c.args.tokens.now c.in-len1-up.len_at_least) c.in_ok-first.first.0 c.in_ok-first.ensures.outcome)
    (names_fail _ _ c.in_err-names.ensures.outcome))

pub join-requires-clause-free : goal.join-requires-clause-free
join-requires-clause-free c =
    let table = c.args.progress.now.table in
    let IsFree = λ (n : NameId). IsTrue (is_free table n.0) in
    let IsFlexible = λ (n : NameId). IsTrue (is_free table n.0) × (c.args.site.now.base ≤ n.0) in
    All-cons IsFree c.in_ok-first.first c.as_slice.result.now c.in_ok-first.ensures.free.0
    (subst (All IsFree) (sym c.as_slice.ensures.value) (All-weaker IsFlexible IsFree (λ n h. h.0) c.in_ok-names.names c.in_ok-names.ensures.free))

pub join-requires-clause-arity : goal.join-requires-clause-arity
join-requires-clause-arity c =
    let names = c.args.progress.now.table.names in
    let IsAlike = λ (n : NameId). arity_of (slice_get names n.0) ≡ arity_of (slice_get names c.in_ok-first.first.0) in
    subst (All IsAlike) (sym c.as_slice.ensures.value) c.in_ok-names.ensures.arity

pub returns-clause-grew : goal.returns-clause-grew
returns-clause-grew c =
    let table = c.args.progress.now.table in
    let base = c.args.site.now.base in
    let IsLater = λ (n : NameId). base ≤ n.0 in
    let IsFlexible = λ (n : NameId). IsTrue (is_free table n.0) × (base ≤ n.0) in
    c.in_ok-join.ensures.grew base (All-cons IsLater c.in_ok-first.first c.as_slice.result.now c.in_ok-first.ensures.free.1
    (subst (All IsLater) (sym c.as_slice.ensures.value) (All-weaker IsFlexible IsLater (λ n h. h.1) c.in_ok-names.names c.in_ok-names.ensures.free)))

pub returns-clause-stands : goal.returns-clause-stands
returns-clause-stands c =
    let table = c.args.progress.now.table in
    let base = c.args.site.now.base in
    let IsLater = λ (n : NameId). base ≤ n.0 in
    let IsFlexible = λ (n : NameId). IsTrue (is_free table n.0) × (base ≤ n.0) in
    stands_later base c.args.progress.now c.join.new.progress
    (c.in_ok-join.ensures.grew base (All-cons IsLater c.in_ok-first.first c.as_slice.result.now c.in_ok-first.ensures.free.1
    (subst (All IsLater) (sym c.as_slice.ensures.value) (All-weaker IsFlexible IsLater (λ n h. h.1) c.in_ok-names.names c.in_ok-names.ensures.free))))
    c.args.site.now c.args.own.entries.now c.requires.stands

pub returns-clause-outcome : goal.returns-clause-outcome
returns-clause-outcome c =
    let p = c.args.progress.now in
    let own = c.args.own.entries.now in
    types_joined c.args.tokens.now _ _ (site_at p c.args.site.now) (body_at p own) (state_of p) (first_token c.args.tokens.now c.in-len1-up.len_at_least) c.in_ok-first.first.0 c.in_ok-first.ensures.outcome
    (numbers c.in_ok-names.names) c.in_ok-names.ensures.outcome
    ∙ ap (λ ns. Ok (joined (c.in_ok-first.first.0 ∷ numbers ns) (body_at p own) (state_of p))) (sym c.as_slice.ensures.value)
    ∙ ap Ok (sym (c.in_ok-join.ensures.joined own c.requires.stands.sees.body))
