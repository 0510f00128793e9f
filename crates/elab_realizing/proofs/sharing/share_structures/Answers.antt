use Rattle.std.proofs.Common.{◌≡◌, ◌≤◌, ◌<◌, ◌+◌, ◌-◌, [], ◌∷◌, List, append-nil, length, drop, take, get_or, Ok, refl, sym, ap, ◌∙◌, subst, arith}
use Rattle.std.specs.List.{All, Any}
use Rattle.std.proofs.lemmas.List.{at_drop_all, take_rest}
use Rattle.std.proofs.lemmas.List.Elements.{All-drop, All-head, All-nil, All-push, All-take}
use Rattle.elab_rules.specs.declared.scope.Scope.{Scope}
use Rattle.elab_rules.specs.Bodies.{Described}
use Rattle.elab_rules.specs.Joining.{ArePlacedAt}
use Rattle.elab_rules.specs.Outcome.{Outcome}
use Rattle.elab_types.specs.Outcome.{and_then}
use Rattle.elab_rules.specs.Sharing.{first_shared, pairs_shared, structures_found}
use Rattle.elab_rules.specs.Standing.{AreOver}
use Rattle.elab_rules.specs.Views.{body_at, site_at, site_of, state_of}
use Rattle.elab_realizing.proofs.Agreed.{agrees_failed, body_fails, fails_on, fails_same, passes_fail}
use Rattle.elab_phrases.proofs.Stands.{stands_later}
use Rattle.elab_phrases.proofs.Staying.{grew_itself, grew_twice, over_later}
use Rattle.elab_realizing.proofs.StructuresShared.{found_by_now, pair_moves_on, pair_turn, placed, placed_from, rest_long, scopes_long, scopes_over}
use Rattle.elab_realizing.specs.SharedStructures.{AreShared, AreThere}
use Rattle.elab_realizing.proofs.LeftOut.{IsSharedWith, all_still_shared, next_left_out}
use Rattle.elab_env.specs.Realizations.{resolved}
use Rattle.elab_realizing.proofs.sharing.share_structures.Goals as goal

pub returns-in_err-found-clause-outcome : goal.returns-in_err-found-clause-outcome
returns-in_err-found-clause-outcome c =
    let p = c.args.progress.now in
    let own = c.args.own.entries.now in
    let tokens = c.args.tokens.now in
    let site = site_at p c.args.site.now in
    agrees_failed _ _ _ own p c.from_residual.ensures.1
    (fails_on _ (λ done. pairs_shared tokens site (body_at p own) (state_of p)) _ _ refl
    (fails_same _ _ _ (found_by_now (resolved p.table.realizations) tokens (site_of c.args.site.now) site own refl) (passes_fail (List Scope) _ _ c.in_err-found.ensures.outcome)))

pub loop-i-init : goal.loop-i-init
loop-i-init c =
    let rs = c.args.progress.now.table.realizations in
    record { turns = refl; shared = subst (All (IsSharedWith rs c.as_slice-found.result.now)) (sym c.new-shared.ensures.empty) (All-nil (IsSharedWith rs c.as_slice-found.result.now)); grew = grew_itself _ _ }

pub slice_bounds-share_first-count : goal.slice_bounds-share_first-count
slice_bounds-share_first-count c =
    let long : length c.as_slice-found.result.now ≡ length c.args.tokens.now = scopes_long _ c.args.tokens.now c.in_ok-found.found _ c.as_slice-found.ensures.value c.in_ok-found.ensures.found in
    omega (arith, long, c.loop-i-test.true)

pub slice_bounds-share_first-start : goal.slice_bounds-share_first-start
slice_bounds-share_first-start c =
    let long : length c.as_slice-found.result.now ≡ length c.args.tokens.now = scopes_long _ c.args.tokens.now c.in_ok-found.found _ c.as_slice-found.ensures.value c.in_ok-found.ensures.found in
    omega (arith, long, c.loop-i-test.true)

pub share_first-requires-clause-over : goal.share_first-requires-clause-over
share_first-requires-clause-over c =
    let p = c.args.progress.now in
    let own = c.args.own.entries.now in
    let tokens = c.args.tokens.now in
    let site = site_at p c.args.site.now in
    let scopes = c.as_slice-found.result.now in
    let all : ArePlacedAt site own tokens scopes = subst (ArePlacedAt site own tokens) (sym c.as_slice-found.ensures.value) (placed (site_of c.args.site.now) site own tokens c.in_ok-found.found refl c.in_ok-found.ensures.outcome c.in_ok-found.ensures.found) in
    let long : length c.as_slice-found.result.now ≡ length c.args.tokens.now = scopes_long _ c.args.tokens.now c.in_ok-found.found _ c.as_slice-found.ensures.value c.in_ok-found.ensures.found in
    let q = c.loop-i.progress in
    let i = c.loop-i.i in
    let token = get_or tokens i 0 in
    let within : i < length tokens = omega (arith, long, c.loop-i-test.true) in
    let here = placed_from site own tokens _ scopes _ i token c.index-found-i.result all within c.loop-i-test.true refl c.index-found-i.is (take_rest tokens (i + 1)) (take_rest scopes (i + 1)) in
    let over_now : AreOver q.table.names own = over_later p.table.names q.table.names c.loop-i.invariant.grew.names own c.requires.stands.sees.body in
    let IsOver = λ (scope : Scope). AreOver q.table.names scope.entries.now in
    let rest = take (length tokens - (i + 1)) (drop (i + 1) tokens) in
    let others = take (length scopes - (i + 1)) (drop (i + 1) scopes) in
    All-head IsOver c.index-found-i.result others (scopes_over q.table.names site own (token ∷ rest) (c.index-found-i.result ∷ others) over_now here)

pub share_first-requires-clause-others_over : goal.share_first-requires-clause-others_over
share_first-requires-clause-others_over c =
    let p = c.args.progress.now in
    let own = c.args.own.entries.now in
    let tokens = c.args.tokens.now in
    let site = site_at p c.args.site.now in
    let scopes = c.as_slice-found.result.now in
    let all : ArePlacedAt site own tokens scopes = subst (ArePlacedAt site own tokens) (sym c.as_slice-found.ensures.value) (placed (site_of c.args.site.now) site own tokens c.in_ok-found.found refl c.in_ok-found.ensures.outcome c.in_ok-found.ensures.found) in
    let q = c.loop-i.progress in
    let over_now : AreOver q.table.names own = over_later p.table.names q.table.names c.loop-i.invariant.grew.names own c.requires.stands.sees.body in
    let IsOver = λ (scope : Scope). AreOver q.table.names scope.entries.now in
    All-take IsOver _ (drop (c.loop-i.i + 1) scopes) (All-drop IsOver (c.loop-i.i + 1) scopes (scopes_over q.table.names site own tokens scopes over_now all))

pub share_first-requires-clause-long : goal.share_first-requires-clause-long
share_first-requires-clause-long c =
    let tokens = c.args.tokens.now in
    let scopes = c.as_slice-found.result.now in
    let long : length scopes ≡ length tokens = scopes_long _ tokens c.in_ok-found.found _ c.as_slice-found.ensures.value c.in_ok-found.ensures.found in
    rest_long scopes tokens (c.loop-i.i + 1) long

pub returns-in_err-share_first-clause-outcome : goal.returns-in_err-share_first-clause-outcome
returns-in_err-share_first-clause-outcome c =
    let p = c.args.progress.now in
    let own = c.args.own.entries.now in
    let tokens = c.args.tokens.now in
    let site = site_at p c.args.site.now in
    let scopes = c.as_slice-found.result.now in
    let all : ArePlacedAt site own tokens scopes = subst (ArePlacedAt site own tokens) (sym c.as_slice-found.ensures.value) (placed (site_of c.args.site.now) site own tokens c.in_ok-found.found refl c.in_ok-found.ensures.outcome c.in_ok-found.ensures.found) in
    let long : length c.as_slice-found.result.now ≡ length c.args.tokens.now = scopes_long _ c.args.tokens.now c.in_ok-found.found _ c.as_slice-found.ensures.value c.in_ok-found.ensures.found in
    let q = c.loop-i.progress in
    let i = c.loop-i.i in
    let token = get_or tokens i 0 in
    let within : i < length tokens = omega (arith, long, c.loop-i-test.true) in
    let here = placed_from site own tokens _ scopes _ i token c.index-found-i.result all within c.loop-i-test.true refl c.index-found-i.is (take_rest tokens (i + 1)) (take_rest scopes (i + 1)) in
    let over_now : AreOver q.table.names own = over_later p.table.names q.table.names c.loop-i.invariant.grew.names own c.requires.stands.sees.body in
    let after : Outcome (Unit {0}) → Described = λ o. and_then o (λ done. pairs_shared tokens site (body_at p own) (state_of p)) in
    let found : structures_found tokens site (body_at p own) ≡ Ok tt = found_by_now (resolved p.table.realizations) tokens (site_of c.args.site.now) site own refl ∙ c.in_ok-found.ensures.outcome in
    agrees_failed _ _ _ own _ c.from_residual-in_err-share_first.ensures.1
    (fails_on _ _ _ _ (pair_turn tokens i token 0 site (body_at q own) (state_of q) _ within refl c.loop-i.invariant.turns ∙ sym (ap after found))
    (fails_same _ _ _ (ap (λ ts. first_shared token ts site (body_at q own) (state_of q)) (sym (take_rest tokens (i + 1))))
    (body_fails _ _ own c.share_first.new.progress (c.in_err-share_first.ensures.outcome own token site refl c.requires.distinct over_now here))))

pub loop-i-preserved : goal.loop-i-preserved
loop-i-preserved c =
    let p = c.args.progress.now in
    let own = c.args.own.entries.now in
    let tokens = c.args.tokens.now in
    let site = site_at p c.args.site.now in
    let scopes = c.as_slice-found.result.now in
    let all : ArePlacedAt site own tokens scopes = subst (ArePlacedAt site own tokens) (sym c.as_slice-found.ensures.value) (placed (site_of c.args.site.now) site own tokens c.in_ok-found.found refl c.in_ok-found.ensures.outcome c.in_ok-found.ensures.found) in
    let long : length c.as_slice-found.result.now ≡ length c.args.tokens.now = scopes_long _ c.args.tokens.now c.in_ok-found.found _ c.as_slice-found.ensures.value c.in_ok-found.ensures.found in
    let q = c.loop-i.progress in
    let i = c.loop-i.i in
    let token = get_or tokens i 0 in
    let within : i < length tokens = omega (arith, long, c.loop-i-test.true) in
    let here = placed_from site own tokens _ scopes _ i token c.index-found-i.result all within c.loop-i-test.true refl c.index-found-i.is (take_rest tokens (i + 1)) (take_rest scopes (i + 1)) in
    let over_now : AreOver q.table.names own = over_later p.table.names q.table.names c.loop-i.invariant.grew.names own c.requires.stands.sees.body in
    record {
      turns = pair_moves_on tokens i token 0 site (body_at q own) (state_of q) _ within refl c.loop-i.invariant.turns _ _
          (ap (λ ts. first_shared token ts site (body_at q own) (state_of q)) (sym (take_rest tokens (i + 1))) ∙ c.in_ok-share_first.ensures.outcome own token site refl c.requires.distinct over_now here);
      shared =
          let later = c.share_first.new.progress.table.realizations in
          let grew = c.in_ok-share_first.ensures.grew in
          let first = c.index-found-i.result in
          let P = IsSharedWith later (drop (i + 1) scopes) in
          subst (All P) (sym c.in_ok-push.ensures.pushed)
          (All-push P c.loop-i.shared first
          (all_still_shared q.table.realizations grew.more later scopes i first c.loop-i.shared c.loop-i-test.true c.index-found-i.is grew.realizations c.loop-i.invariant.shared)
          (subst (All (λ (scope : Scope). AreShared later first.entries.now scope.entries.now)) (take_rest scopes (i + 1)) c.in_ok-share_first.ensures.same));
      grew = grew_twice _ _ _ _ c.loop-i.invariant.grew c.in_ok-share_first.ensures.grew;
    }

pub loop-i-preserved-then-one_has_all : goal.loop-i-preserved-then-one_has_all
loop-i-preserved-then-one_has_all c =
    let p = c.args.progress.now in
    let own = c.args.own.entries.now in
    let tokens = c.args.tokens.now in
    let site = site_at p c.args.site.now in
    let scopes = c.as_slice-found.result.now in
    let all : ArePlacedAt site own tokens scopes = subst (ArePlacedAt site own tokens) (sym c.as_slice-found.ensures.value) (placed (site_of c.args.site.now) site own tokens c.in_ok-found.found refl c.in_ok-found.ensures.outcome c.in_ok-found.ensures.found) in
    let long : length c.as_slice-found.result.now ≡ length c.args.tokens.now = scopes_long _ c.args.tokens.now c.in_ok-found.found _ c.as_slice-found.ensures.value c.in_ok-found.ensures.found in
    let q = c.loop-i.progress in
    let i = c.loop-i.i in
    let token = get_or tokens i 0 in
    let within : i < length tokens = omega (arith, long, c.loop-i-test.true) in
    let here = placed_from site own tokens _ scopes _ i token c.index-found-i.result all within c.loop-i-test.true refl c.index-found-i.is refl refl in
    let over_now : AreOver q.table.names own = over_later p.table.names q.table.names c.loop-i.invariant.grew.names own c.requires.stands.sees.body in
    let first = c.index-found-i.result in
    let met = subst (Any (λ (scope : Scope). AreThere first.entries.now scope.entries.now)) c.as_slice.ensures.value (c.one_has_all.ensures.there c.if-one_has_all.true) in
    record {
      turns = pair_moves_on tokens i token 0 site (body_at q own) (state_of q) _ within refl c.loop-i.invariant.turns _ _
          (next_left_out q.table.realizations site own (state_of q) scopes c.loop-i.shared i token (drop (i + 1) tokens) first c.loop-i-test.true c.index-found-i.is here c.loop-i.invariant.shared met);
      shared = subst (λ rs. All (IsSharedWith rs (drop (i + 1) scopes)) c.loop-i.shared) (append-nil q.table.realizations)
          (all_still_shared q.table.realizations [] _ scopes i first c.loop-i.shared c.loop-i-test.true c.index-found-i.is refl c.loop-i.invariant.shared);
      grew = c.loop-i.invariant.grew;
    }

pub returns-clause-outcome : goal.returns-clause-outcome
returns-clause-outcome c =
    let p = c.args.progress.now in
    let q = c.loop-i.progress in
    let own = c.args.own.entries.now in
    let tokens = c.args.tokens.now in
    let site = site_at p c.args.site.now in
    let long : length c.as_slice-found.result.now ≡ length c.args.tokens.now = scopes_long _ c.args.tokens.now c.in_ok-found.found _ c.as_slice-found.ensures.value c.in_ok-found.ensures.found in
    let past : length tokens ≤ c.loop-i.i = omega (arith, long, c.loop-i-test.false) in
    ap (λ o. and_then o (λ done. pairs_shared tokens site (body_at p own) (state_of p))) (found_by_now (resolved p.table.realizations) tokens (site_of c.args.site.now) site own refl ∙ c.in_ok-found.ensures.outcome)
    ∙ sym c.loop-i.invariant.turns
    ∙ at_drop_all (λ ts. pairs_shared ts site (body_at q own) (state_of q)) tokens c.loop-i.i past

pub returns-clause-stands : goal.returns-clause-stands
returns-clause-stands c = stands_later c.args.site.now.base c.args.progress.now c.loop-i.progress c.loop-i.invariant.grew c.args.site.now c.args.own.entries.now c.requires.stands

pub returns-clause-grew : goal.returns-clause-grew
returns-clause-grew c = c.loop-i.invariant.grew
