use Rattle.std.proofs.Common.{◌≡◌, refl, subst, arith, Err, ap, ◌∙◌, sym}
use Rattle.elab_rules.specs.Environments.{Environment}
use Rattle.elab_rules.specs.TypeDescriptions.{type_described}
use Rattle.elab_rules.specs.Views.{GivesBody, body_at, site_at, state_of}
use Rattle.elab_phrases.proofs.Sites.{body_mentions, site_mentions}
use Rattle.elab_phrases.proofs.Staying.{mentions_itself, mentions_twice}
use Rattle.elab_phrases.proofs.Turns.{turn_ends, turn_moves_on}
use Rattle.elab_phrases.proofs.TypeGroups.{front_grown, whole_front}
use Rattle.elab_phrases.proofs.type_descriptions.describe_types.Goals as goal

pub loop-desc-init : goal.loop-desc-init
loop-desc-init c = record {
  turns = refl;
  stands = c.requires.stands;
  mentions = mentions_itself _;
  front = whole_front _ _ (omega (arith, c.len-before.ensures, c.args.own.entries.ok.0));
  within = omega (arith, c.len-before.ensures, c.args.own.entries.ok.0);
}

pub returns-in_err-body-clause-outcome : goal.returns-in_err-body-clause-outcome
returns-in_err-body-clause-outcome c =
    let front : body_at c.loop-desc.progress _ ≡ body_at c.args.progress.now c.args.own.entries.items =
    ap (body_at c.loop-desc.progress) c.loop-desc.invariant.front ∙ body_mentions c.args.progress.now c.loop-desc.progress c.args.own.entries.items c.loop-desc.invariant.mentions in
    turn_ends (λ d. type_described c.args.equality d (body_at c.args.progress.now c.args.own.entries.items)) _ _ _ _ _ _ _ _ _ _ _ c.loop-desc-test.true c.desc-item.is c.loop-desc.invariant.turns c.from_residual.ensures.1
    (subst (λ (before : Environment). GivesBody (type_described c.args.equality c.desc-item.result before (site_at c.loop-desc.progress c.args.site.now) (body_at c.loop-desc.progress c.loop-desc.body.entries.items) (state_of c.loop-desc.progress)) (Err c.in_err-body.field-0.0) c.describe_type.new.progress)
    front c.in_err-body.ensures.outcome)

pub loop-desc-preserved : goal.loop-desc-preserved
loop-desc-preserved c =
    let grown = c.in_ok-body.ensures.grown in
    let longer = front_grown _ c.loop-desc.body.entries.items _ grown.0 _ c.loop-desc.invariant.front c.loop-desc.invariant.within grown.1 in
    let front : body_at c.loop-desc.progress _ ≡ body_at c.args.progress.now c.args.own.entries.items =
    ap (body_at c.loop-desc.progress) c.loop-desc.invariant.front ∙ body_mentions c.args.progress.now c.loop-desc.progress c.args.own.entries.items c.loop-desc.invariant.mentions in
    record {
      turns = turn_moves_on (λ d. type_described c.args.equality d (body_at c.args.progress.now c.args.own.entries.items)) _ _ _ _ _ _ _ _ _ _ _ (site_mentions _ _ c.args.site.now c.in_ok-body.ensures.mentions) c.loop-desc-test.true c.desc-item.is c.loop-desc.invariant.turns
          (ap (λ (before : Environment). type_described c.args.equality c.desc-item.result before (site_at c.loop-desc.progress c.args.site.now) (body_at c.loop-desc.progress c.loop-desc.body.entries.items) (state_of c.loop-desc.progress)) (sym front) ∙ c.in_ok-body.ensures.outcome);
      stands = c.in_ok-body.ensures.stands;
      mentions = mentions_twice _ _ _ c.loop-desc.invariant.mentions c.in_ok-body.ensures.mentions;
      front = longer.0;
      within = longer.1;
    }
