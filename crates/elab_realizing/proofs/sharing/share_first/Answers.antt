use Rattle.std.proofs.Common.{◌<◌, ◌≤◌, [], get_or, length, take, refl, sym, ◌∙◌, subst, arith}
use Rattle.std.proofs.lemmas.List.{at_drop_all, take_all}
use Rattle.std.proofs.lemmas.List.Elements.{All-get_or, All-more, All-nil, All-weaker}
use Rattle.std.specs.List.{All}
use Rattle.std.proofs.lemmas.Option.{slice_get-get_or}
use Rattle.type_core.specs.declared.ty.Ty.{Ty}
use Rattle.elab_env.specs.Realizations.{resolved}
use Rattle.elab_rules.specs.declared.scope.Scope.{Scope}
use Rattle.sig_base.specs.LongIdentifiers.{parts}
use Rattle.elab_rules.specs.Sharing.{first_shared}
use Rattle.elab_types.specs.Sources.{text_at}
use Rattle.elab_rules.specs.Standing.{AreOver}
use Rattle.elab_rules.specs.Views.{body_at, state_of}
use Rattle.elab_realizing.proofs.Agreed.{agrees_failed, body_fails, fails_on}
use Rattle.elab_phrases.proofs.Staying.{grew_itself, grew_twice, over_later}
use Rattle.elab_realizing.proofs.StructuresShared.{at_path, first_moves_on, first_turn, placed_there}
use Rattle.elab_realizing.specs.SharedStructures.{AreShared}
use Rattle.elab_realizing.proofs.AlongPaths.{shared_more}
use Rattle.elab_realizing.proofs.sharing.share_first.Goals as goal

pub loop-j-init : goal.loop-j-init
loop-j-init c = record { turns = λ whole i site same distinct over placed. refl; same = All-nil _; grew = grew_itself _ _ }

pub share_all-requires-clause-over : goal.share_all-requires-clause-over
share_all-requires-clause-over c = over_later c.args.progress.now.table.names c.loop-j.progress.table.names c.loop-j.invariant.grew.names c.args.first.entries.now c.requires.over

pub share_all-requires-clause-other_over : goal.share_all-requires-clause-other_over
share_all-requires-clause-other_over c =
    let IsOver = λ (scope : Scope). AreOver c.args.progress.now.table.names scope.entries.now in
    over_later c.args.progress.now.table.names c.loop-j.progress.table.names c.loop-j.invariant.grew.names c.index-others-j.result.entries.now
    (subst IsOver (sym c.index-others-j.is) (All-get_or IsOver c.args.others.now c.loop-j.j c.index-others-j.result c.loop-j-test.true c.requires.others_over))

pub returns-in_err-share_all-clause-outcome : goal.returns-in_err-share_all-clause-outcome
returns-in_err-share_all-clause-outcome c = λ whole i site same distinct over placed.
    let q = c.loop-j.progress in
    let now : Ty → Ty = resolved q.table.realizations in
    let tokens = c.args.tokens.now in
    let token = get_or tokens c.loop-j.j 0 in
    let within : c.loop-j.j < length tokens = subst (λ n. c.loop-j.j < n) c.requires.long c.loop-j-test.true in
    let here = slice_get-get_or tokens c.loop-j.j 0 within in
    let over_now : AreOver q.table.names whole = over_later c.args.progress.now.table.names q.table.names c.loop-j.invariant.grew.names whole over in
    let other = placed_there site whole tokens c.args.others.now c.loop-j.j token c.index-others-j.result placed.1 here c.loop-j-test.true c.index-others-j.is in
    agrees_failed _ _ _ whole _ c.from_residual.ensures.1
    (fails_on _ _ _ _
    (first_turn i tokens c.loop-j.j token 0 site now whole c.args.first.entries.now (state_of q) _ within refl placed.0
    (c.loop-j.invariant.turns whole i site same distinct over placed))
    (body_fails _ _ whole c.share_all.new.progress
    (c.in_err-share_all.ensures.outcome whole (parts (text_at site.texts i)) (parts (text_at site.texts token)) [] site same distinct over_now (at_path _ whole _ placed.0) (at_path _ whole _ other))))

pub loop-j-preserved : goal.loop-j-preserved
loop-j-preserved c =
    let q = c.loop-j.progress in
    record {
      turns = λ whole i site same distinct over placed.
          let now : Ty → Ty = resolved q.table.realizations in
          let tokens = c.args.tokens.now in
          let token = get_or tokens c.loop-j.j 0 in
          let within : c.loop-j.j < length tokens = subst (λ n. c.loop-j.j < n) c.requires.long c.loop-j-test.true in
          let here = slice_get-get_or tokens c.loop-j.j 0 within in
          let over_now : AreOver q.table.names whole = over_later c.args.progress.now.table.names q.table.names c.loop-j.invariant.grew.names whole over in
          let other = placed_there site whole tokens c.args.others.now c.loop-j.j token c.index-others-j.result placed.1 here c.loop-j-test.true c.index-others-j.is in
          first_moves_on i tokens c.loop-j.j token 0 site now whole c.args.first.entries.now (state_of q) _ within refl placed.0
          (c.loop-j.invariant.turns whole i site same distinct over placed) _ _
          (c.in_ok-share_all.ensures.outcome whole (parts (text_at site.texts i)) (parts (text_at site.texts token)) [] site same distinct over_now (at_path _ whole _ placed.0) (at_path _ whole _ other));
      same =
          let rs = q.table.realizations in
          let later = c.share_all.new.progress.table.realizations in
          let grew = c.in_ok-share_all.ensures.grew in
          let first = c.args.first.entries.now in
          let Was = λ (scope : Scope). AreShared rs first scope.entries.now in
          let Is = λ (scope : Scope). AreShared later first scope.entries.now in
          All-more Is c.args.others.now c.loop-j.j c.index-others-j.result c.loop-j-test.true
          (All-weaker Was Is (λ scope was. shared_more rs grew.more later first scope.entries.now grew.realizations was) (take c.loop-j.j c.args.others.now) c.loop-j.invariant.same)
          (subst Is c.index-others-j.is c.in_ok-share_all.ensures.same);
      grew = grew_twice _ _ _ _ c.loop-j.invariant.grew c.in_ok-share_all.ensures.grew;
    }

pub returns-clause-outcome : goal.returns-clause-outcome
returns-clause-outcome c = λ whole i site same distinct over placed.
    let q = c.loop-j.progress in
    let past : length c.args.tokens.now ≤ c.loop-j.j = omega (arith, c.requires.long, c.loop-j-test.false) in
    sym (c.loop-j.invariant.turns whole i site same distinct over placed)
    ∙ at_drop_all (λ ts. first_shared i ts site (body_at q whole) (state_of q)) c.args.tokens.now c.loop-j.j past

pub returns-clause-same : goal.returns-clause-same
returns-clause-same c =
    let rs = c.loop-j.progress.table.realizations in
    subst (All (λ (scope : Scope). AreShared rs c.args.first.entries.now scope.entries.now)) (take_all c.loop-j.j c.args.others.now c.loop-j-test.false) c.loop-j.invariant.same
