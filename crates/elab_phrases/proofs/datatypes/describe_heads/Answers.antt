use Rattle.std.proofs.Common.{List, length, refl, arith, subst}
use Rattle.std.proofs.lemmas.List.{take_all}
use Rattle.sig_parser.specs.declared.tree.DataDesc.{DataDesc}
use Rattle.elab_rules.specs.Standing.{AreMade}
use Rattle.elab_types.specs.Views.{texts}
use Rattle.elab_phrases.proofs.Extensions.{extended_itself, extended_twice}
use Rattle.elab_phrases.proofs.MadeTypes.{made_more}
use Rattle.elab_phrases.proofs.Sites.{site_mentions}
use Rattle.elab_phrases.proofs.Staying.{mentions_itself, mentions_twice}
use Rattle.elab_phrases.proofs.Turns.{turn_ends, turn_moves_on}
use Rattle.elab_phrases.proofs.datatypes.describe_heads.Goals as goal

pub loop-desc-init : goal.loop-desc-init
loop-desc-init c = record {
  turns = refl;
  stands = c.requires.stands;
  mentions = mentions_itself _;
  extended = extended_itself _ _;
  count = omega arith;
  made = λ i d at. cc;
}

pub returns-in_err-body-clause-outcome : goal.returns-in_err-body-clause-outcome
returns-in_err-body-clause-outcome c = turn_ends _ _ _ _ _ _ _ _ _ _ _ _ c.loop-desc-test.true c.desc-item.is c.loop-desc.invariant.turns c.from_residual.ensures.1 c.in_err-body.ensures.outcome

pub loop-desc-preserved : goal.loop-desc-preserved
loop-desc-preserved c =
    let done = c.in_ok-body.ensures in
    let so_far = c.loop-desc.invariant in
    record {
      turns = turn_moves_on _ _ _ _ _ _ _ _ _ _ _ _ (site_mentions _ _ c.args.site.now done.mentions) c.loop-desc-test.true c.desc-item.is so_far.turns done.outcome;
      stands = done.stands;
      mentions = mentions_twice _ _ _ so_far.mentions done.mentions;
      extended = extended_twice _ _ _ _ _ done.mentions so_far.extended done.extended;
      count = omega (arith, done.one, so_far.count);
      made = made_more _ _ _ _ _ _ _ _ _ done.mentions c.loop-desc-test.true c.desc-item.is so_far.count so_far.made done.made;
    }

pub returns-clause-made : goal.returns-clause-made
returns-clause-made c =
    subst (λ (ds : List DataDesc). AreMade c.loop-desc.progress.table (length c.args.progress.now.table.names) (texts c.args.site.now.source) ds) (take_all _ _ (omega (arith, c.loop-desc-test.false))) c.loop-desc.invariant.made
