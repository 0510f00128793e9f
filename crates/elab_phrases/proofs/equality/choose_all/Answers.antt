use Rattle.std.proofs.Common.{◌∙◌}
use Rattle.elab_phrases.proofs.Choices.{chosen_on}
use Rattle.elab_phrases.proofs.equality.choose_all.Goals as goal

pub loop-name-preserved : goal.loop-name-preserved
loop-name-preserved c = record {
  names = chosen_on _ _ _ _ _ c.loop-name-test.true c.in_ok-settle.ensures.names c.loop-name.invariant.names;
  realizations = c.in_ok-settle.ensures.realizations ∙ c.loop-name.invariant.realizations;
}
