use Rattle.std.proofs.Common.{refl}
use Rattle.elab_realizing.proofs.PartsApplied.{part_ends, part_moves_on}
use Rattle.elab_phrases.proofs.Sites.{site_stays}
use Rattle.elab_phrases.proofs.Staying.{grew_itself, grew_twice}
use Rattle.elab_realizing.proofs.wheres.apply_parts.Goals as goal

pub loop-part-init : goal.loop-part-init
loop-part-init c = record { turns = refl; stands = c.requires.stands; grew = grew_itself _ _ }

pub returns-in_err-body-clause-outcome : goal.returns-in_err-body-clause-outcome
returns-in_err-body-clause-outcome c =
    part_ends _ _ _ _ _ _ _ _ _ c.loop-part-test.true c.part-item.is c.loop-part.invariant.turns _ _ _ c.from_residual.ensures.1 c.in_err-body.ensures.outcome

pub loop-part-preserved : goal.loop-part-preserved
loop-part-preserved c = record {
  turns = part_moves_on _ _ _ _ _ _ _ _ _ c.loop-part-test.true c.part-item.is c.loop-part.invariant.turns _ _ _
      (site_stays c.args.base _ _ c.args.site.now _ c.is_sound.ensures.sound c.in_ok-body.ensures.grew c.loop-part.invariant.stands) c.in_ok-body.ensures.outcome;
  stands = c.in_ok-body.ensures.stands;
  grew = grew_twice _ _ _ _ c.loop-part.invariant.grew c.in_ok-body.ensures.grew;
}
