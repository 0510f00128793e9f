use Rattle.std.proofs.Common.{refl}
use Rattle.elab_rules.proofs.Outcomes.{handed_on}
use Rattle.elab_phrases.proofs.SettledParts.{tuple_settled_as}
use Rattle.elab_phrases.proofs.Sites.{place_mentions}
use Rattle.elab_phrases.proofs.Staying.{mentions_twice}
use Rattle.elab_phrases.proofs.TypesInTurn.{constructed_fail, constructed_more}
use Rattle.elab_phrases.proofs.typing.constructed_all.Goals as goal

pub returns-in_default-clause-settled : goal.returns-in_default-clause-settled
returns-in_default-clause-settled c = tuple_settled_as _ _ _ c.in_ok-arguments.ensures.value c.requires.arguments

pub returns-in_err-t-2-clause-outcome : goal.returns-in_err-t-2-clause-outcome
returns-in_err-t-2-clause-outcome c =
    constructed_fail _ _ _ _ _ _ _ _ _ _ _ _ c.loop-token-test.true refl c.in_ok-argument.ensures.value (place_mentions _ _ c.args.place.now c.loop-token.invariant.mentions) (handed_on _ _ c.from_residual-in_err-t-2.ensures.1)
    c.loop-token.invariant.constructed c.in_err-t-2.ensures.outcome

pub loop-token-preserved : goal.loop-token-preserved
loop-token-preserved c = record {
  constructed =
      constructed_more _ _ _ _ _ _ _ _ _ _ _ c.loop-token-test.true refl c.in_ok-argument.ensures.value (place_mentions _ _ c.args.place.now c.loop-token.invariant.mentions) c.in_ok-t-2.ensures.outcome
      c.loop-token.invariant.constructed;
  settled = c.in_ok-t-2.ensures.settled;
  sees = c.in_ok-t-2.ensures.sees;
  mentions = mentions_twice _ _ _ c.loop-token.invariant.mentions c.in_ok-t-2.ensures.grew;
}
