use Rattle.std.proofs.Common.{◌≡◌, ◌==◌, ◌≤◌, ◌++◌, false, IsTrue, Ok, slice_get, refl, sym, ap, ap₂, ◌∙◌, subst, arith, append-nil}
use Rattle.std.specs.List.{All}
use Rattle.std.proofs.lemmas.Bool.{eq-eqb}
use Rattle.std.proofs.lemmas.Bool.Decides.{nat_tests}
use Rattle.std.proofs.lemmas.List.{at_drop_all}
use Rattle.std.proofs.lemmas.List.Elements.{All-nil, All-push}
use Rattle.type_core.specs.declared.ty.NameId.{NameId}
use Rattle.elab_env.specs.Names.{arity_of}
use Rattle.elab_env.specs.Table.{is_free}
use Rattle.elab_types.specs.Outcome.{and_then}
use Rattle.elab_rules.specs.Sharing.{others_flexible}
use Rattle.elab_rules.specs.Views.{body_at, numbers, site_at, state_of}
use Rattle.elab_realizing.proofs.Agreed.{fails_on, name_fails, names_failed}
use Rattle.elab_realizing.proofs.NamesShared.{arities_clash, name_more, name_turn, none_before}
use Rattle.elab_realizing.proofs.sharing.others_flexible.Goals as goal

pub loop-token-init : goal.loop-token-init
loop-token-init c =
    let p = c.args.progress.now in
    let IsFlexible = λ (n : NameId). IsTrue (is_free p.table n.0) × (c.args.site.now.base ≤ n.0) in
    let IsAlike = λ (n : NameId). arity_of (slice_get p.table.names n.0) ≡ arity_of (slice_get p.table.names c.args.first.0) in
    record {
      turns = none_before _ c.new-names.result c.new-names.ensures.empty;
      free = subst (All IsFlexible) (sym c.new-names.ensures.empty) (All-nil IsFlexible);
      arity = subst (All IsAlike) (sym c.new-names.ensures.empty) (All-nil IsAlike);
    }

pub returns-in_err-name-clause-outcome : goal.returns-in_err-name-clause-outcome
returns-in_err-name-clause-outcome c =
    names_failed _ _ _ c.from_residual.ensures.1
    (fails_on _ _ _ _ (name_turn _ c.args.tokens.now c.loop-token.token-index _ 0 _ _ _ c.loop-token.names _ c.loop-token-test.true refl c.loop-token.invariant.turns)
    (name_fails _ _ c.in_err-name.ensures.outcome))

pub returns-then-arity-clause-outcome : goal.returns-then-arity-clause-outcome
returns-then-arity-clause-outcome c =
    let differ : (c.arity.result == c.arity-in-loop-token.result) ≡ false = grind (arith, nat_tests) in
    arities_clash _ c.args.tokens.now c.loop-token.token-index _ 0 _ _ _ c.loop-token.names _ c.loop-token-test.true refl c.loop-token.invariant.turns c.in_ok-name.name.0 c.in_ok-name.ensures.outcome
    (ap₂ (λ a b. a == b) (sym c.arity.ensures.value) (sym c.arity-in-loop-token.ensures.value) ∙ differ)

pub loop-token-preserved : goal.loop-token-preserved
loop-token-preserved c =
    let p = c.args.progress.now in
    let same : c.arity.result ≡ c.arity-in-loop-token.result = omega arith in
    let IsFlexible = λ (n : NameId). IsTrue (is_free p.table n.0) × (c.args.site.now.base ≤ n.0) in
    let IsAlike = λ (n : NameId). arity_of (slice_get p.table.names n.0) ≡ arity_of (slice_get p.table.names c.args.first.0) in
    let alike : IsAlike c.in_ok-name.name = sym c.arity.ensures.value ∙ same ∙ c.arity-in-loop-token.ensures.value in
    record {
      turns = name_more _ c.args.tokens.now c.loop-token.token-index _ 0 _ _ _ c.loop-token.names _ c.loop-token-test.true refl c.loop-token.invariant.turns c.in_ok-name.name _ c.in_ok-name.ensures.outcome (eq-eqb _ _ alike) c.in_ok-push.ensures.pushed;
      free = subst (All IsFlexible) (sym c.in_ok-push.ensures.pushed) (All-push IsFlexible c.loop-token.names c.in_ok-name.name c.loop-token.invariant.free c.in_ok-name.ensures.free);
      arity = subst (All IsAlike) (sym c.in_ok-push.ensures.pushed) (All-push IsAlike c.loop-token.names c.in_ok-name.name c.loop-token.invariant.arity alike);
    }

pub returns-clause-outcome : goal.returns-clause-outcome
returns-clause-outcome c =
    let p = c.args.progress.now in
    sym c.loop-token.invariant.turns
    ∙ at_drop_all (λ ts. and_then (others_flexible (arity_of (slice_get p.table.names c.args.first.0)) ts (site_at p c.args.site.now) (body_at p c.args.own.entries.now) (state_of p)) (λ ns. Ok (numbers c.loop-token.names ++ ns))) c.args.tokens.now c.loop-token.token-index c.loop-token-test.false
    ∙ ap Ok (append-nil (numbers c.loop-token.names))
