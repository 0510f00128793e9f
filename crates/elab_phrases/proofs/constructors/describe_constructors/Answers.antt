use Rattle.std.proofs.Common.{refl}
use Rattle.elab_phrases.proofs.Extensions.{extended_itself, extended_twice}
use Rattle.elab_phrases.proofs.Sites.{site_mentions}
use Rattle.elab_phrases.proofs.Stands.{settled_type_mentions}
use Rattle.elab_phrases.proofs.Staying.{mentions_itself, mentions_twice}
use Rattle.elab_phrases.proofs.Turns.{turn_ends, turn_moves_on}
use Rattle.elab_phrases.proofs.constructors.describe_constructors.Goals as goal

pub loop-constructor-init : goal.loop-constructor-init
loop-constructor-init c = record { turns = refl; stands = c.requires.stands; mentions = mentions_itself _; extended = extended_itself _ _; made = c.requires.made }

pub returns-in_err-body-clause-outcome : goal.returns-in_err-body-clause-outcome
returns-in_err-body-clause-outcome c = turn_ends _ _ _ _ _ _ _ _ _ _ _ _ c.loop-constructor-test.true c.constructor-item.is c.loop-constructor.invariant.turns c.from_residual.ensures.1 c.in_err-body.ensures.outcome

pub loop-constructor-preserved : goal.loop-constructor-preserved
loop-constructor-preserved c = record {
  turns = turn_moves_on _ _ _ _ _ _ _ _ _ _ _ _ (site_mentions _ _ c.args.site.now c.in_ok-body.ensures.mentions) c.loop-constructor-test.true c.constructor-item.is c.loop-constructor.invariant.turns c.in_ok-body.ensures.outcome;
  stands = c.in_ok-body.ensures.stands;
  mentions = mentions_twice _ _ _ c.loop-constructor.invariant.mentions c.in_ok-body.ensures.mentions;
  extended = extended_twice _ _ _ _ _ c.in_ok-body.ensures.mentions c.loop-constructor.invariant.extended c.in_ok-body.ensures.extended;
  made = settled_type_mentions _ _ _ c.in_ok-body.ensures.mentions c.loop-constructor.invariant.made;
}
