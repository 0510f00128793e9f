use Rattle.std.proofs.Common.{◌≡◌, ◌≤◌, ◌∷◌, ℕ, true, slice_get, refl, sym, ap, ◌∙◌}
use Rattle.std.proofs.lemmas.List.{at_drop_all}
use Rattle.std.proofs.lemmas.List.Elements.{All-get_or, All-head, All-map, All-tail}
use Rattle.type_core.specs.declared.ty.NameId.{NameId}
use Rattle.elab_env.specs.Names.{arity_of}
use Rattle.elab_env.specs.Table.{is_free}
use Rattle.elab_rules.specs.declared.progress.Progress.{Progress}
use Rattle.elab_rules.specs.Views.{numbers}
use Rattle.elab_realizing.proofs.JoinTurns.{arities_kept, first_joined, grew_joined, kept_free, least_alike, least_below_all, least_holds, next_joined}
use Rattle.elab_realizing.specs.InTurn.{joined_in_turn}
use Rattle.elab_realizing.proofs.JoinedAll.{joined_by_turns}
use Rattle.elab_phrases.proofs.Staying.{grew_twice}
use Rattle.elab_realizing.proofs.sharing.join.Goals as goal

pub join_one-requires-clause-kept : goal.join_one-requires-clause-kept
join_one-requires-clause-kept c = least_holds (λ n. is_free c.args.progress.now.table n ≡ true) c.args.first c.args.others.now c.least-kept.result.0 c.least-kept.ensures.value c.requires.free

pub join_one-requires-clause-least : goal.join_one-requires-clause-least
join_one-requires-clause-least c = All-head (λ (n : NameId). c.least-kept.result.0 ≤ n.0) c.args.first c.args.others.now (least_below_all c.args.first c.args.others.now c.least-kept.result.0 c.least-kept.ensures.value)

pub join_one-requires-clause-arity : goal.join_one-requires-clause-arity
join_one-requires-clause-arity c =
    sym (least_alike c.args.progress.now.table.names c.args.first c.args.others.now c.least-kept.result.0 c.least-kept.ensures.value c.requires.arity)

pub loop-n-init : goal.loop-n-init
loop-n-init c =
    let p = c.args.progress.now in
    let q : Progress = record p { table = c.join_one.new.table } in
    let kept = c.least-kept.result.0 in
    let least = All-head (λ (n : NameId). kept ≤ n.0) c.args.first c.args.others.now (least_below_all c.args.first c.args.others.now kept c.least-kept.ensures.value) in
    record {
      turns = first_joined kept c.args.first.0 (numbers c.args.others.now) p.table q.table c.in_ok-join_one.ensures.joined;
      free = kept_free kept c.args.first.0 p.table q.table least c.in_ok-join_one.ensures.joined
          (least_holds (λ n. is_free p.table n ≡ true) c.args.first c.args.others.now kept c.least-kept.ensures.value c.requires.free);
      arities = arities_kept kept c.args.first.0 p.table q.table c.in_ok-join_one.ensures.joined;
      weight = refl;
      grew = λ base all. grew_joined base kept c.args.first.0 p q (All-head (λ (n : NameId). base ≤ n.0) c.args.first c.args.others.now all) c.in_ok-join_one.ensures.joined refl refl;
    }

pub join_one-requires-in-loop-n-clause-kept : goal.join_one-requires-in-loop-n-clause-kept
join_one-requires-in-loop-n-clause-kept c = c.loop-n.invariant.free

pub join_one-requires-in-loop-n-clause-least : goal.join_one-requires-in-loop-n-clause-least
join_one-requires-in-loop-n-clause-least c =
    let kept = c.least-kept.result.0 in
    let IsGreater = λ (n : NameId). kept ≤ n.0 in
    All-get_or IsGreater c.args.others.now c.loop-n.n-index (record { 0 = 0 }) c.loop-n-test.true (All-tail IsGreater c.args.first c.args.others.now (least_below_all c.args.first c.args.others.now kept c.least-kept.ensures.value))

pub join_one-requires-in-loop-n-clause-arity : goal.join_one-requires-in-loop-n-clause-arity
join_one-requires-in-loop-n-clause-arity c =
    let names = c.args.progress.now.table.names in
    let first = c.args.first.0 in
    let kept = c.least-kept.result.0 in
    let IsAlike = λ (n : NameId). arity_of (slice_get names n.0) ≡ arity_of (slice_get names first) in
    c.loop-n.invariant.arities _
    ∙ All-get_or IsAlike c.args.others.now c.loop-n.n-index (record { 0 = 0 }) c.loop-n-test.true c.requires.arity
    ∙ sym (least_alike names c.args.first c.args.others.now kept c.least-kept.ensures.value c.requires.arity)
    ∙ sym (c.loop-n.invariant.arities kept)

pub loop-n-preserved : goal.loop-n-preserved
loop-n-preserved c =
    let p = c.args.progress.now in
    let q = c.loop-n.progress in
    let t : Progress = record q { table = c.join_one-in-loop-n.new.table } in
    let kept = c.least-kept.result.0 in
    let IsGreater = λ (n : NameId). kept ≤ n.0 in
    let least = All-get_or IsGreater c.args.others.now c.loop-n.n-index (record { 0 = 0 }) c.loop-n-test.true (All-tail IsGreater c.args.first c.args.others.now (least_below_all c.args.first c.args.others.now kept c.least-kept.ensures.value)) in
    record {
      turns = next_joined kept c.args.others.now c.loop-n.n-index _ (record { 0 = 0 }) q.table t.table _ c.loop-n-test.true refl c.in_ok-join_one-2.ensures.joined c.loop-n.invariant.turns;
      free = kept_free kept _ q.table t.table least c.in_ok-join_one-2.ensures.joined c.loop-n.invariant.free;
      arities = λ m. arities_kept kept _ q.table t.table c.in_ok-join_one-2.ensures.joined m ∙ c.loop-n.invariant.arities m;
      weight = c.loop-n.invariant.weight;
      grew = λ base all. grew_twice base p q t (c.loop-n.invariant.grew base all)
          (grew_joined base kept _ q t (All-get_or (λ (n : NameId). base ≤ n.0) c.args.others.now c.loop-n.n-index (record { 0 = 0 }) c.loop-n-test.true (All-tail (λ (n : NameId). base ≤ n.0) c.args.first c.args.others.now all)) c.in_ok-join_one-2.ensures.joined refl refl);
    }

pub returns-clause-grew : goal.returns-clause-grew
returns-clause-grew c = c.loop-n.invariant.grew

pub returns-clause-joined : goal.returns-clause-joined
returns-clause-joined c = λ entries over.
    let p = c.args.progress.now in
    let q = c.loop-n.progress in
    let others = c.args.others.now in
    let names = p.table.names in
    let IsFree = λ (n : ℕ). is_free p.table n ≡ true in
    let IsAlike = λ (n : ℕ). arity_of (slice_get names n) ≡ arity_of (slice_get names c.args.first.0) in
    let kept = c.least-kept.result.0 in
    joined_by_turns p q c.args.first.0 (numbers others) entries c.is_sound.ensures.sound.realizations
    (All-map IsFree (λ (n : NameId). n.0) (c.args.first ∷ others) c.requires.free) (All-map IsAlike (λ (n : NameId). n.0) others c.requires.arity)
    (sym (at_drop_all (λ ns. joined_in_turn kept (numbers ns) q.table) others c.loop-n.n-index c.loop-n-test.false) ∙ c.loop-n.invariant.turns ∙ ap (λ k. joined_in_turn k (c.args.first.0 ∷ numbers others) p.table) c.least-kept.ensures.value)
    c.loop-n.invariant.weight over

pub returns-clause-turns : goal.returns-clause-turns
returns-clause-turns c =
    let p = c.args.progress.now in
    let q = c.loop-n.progress in
    let others = c.args.others.now in
    let kept = c.least-kept.result.0 in
    sym (at_drop_all (λ ns. joined_in_turn kept (numbers ns) q.table) others c.loop-n.n-index c.loop-n-test.false)
    ∙ c.loop-n.invariant.turns
    ∙ ap (λ k. joined_in_turn k (c.args.first.0 ∷ numbers others) p.table) c.least-kept.ensures.value
