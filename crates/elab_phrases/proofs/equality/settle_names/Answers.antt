use Rattle.std.proofs.Common.{◌∙◌}
use Rattle.elab_phrases.proofs.Rounds.{bound_at_first, bound_is_greatest}
use Rattle.elab_phrases.proofs.equality.settle_names.Goals as goal

pub rounds-init : goal.rounds-init
rounds-init c = record {
  bound = bound_at_first _ _ _ _ _ c.in_ok-choose_all.ensures.names;
  realizations = c.in_ok-choose_all.ensures.realizations;
}

pub rounds-preserved : goal.rounds-preserved
rounds-preserved c = record {
  bound = c.in_ok-changed.ensures.bound _ c.rounds.invariant.bound;
  realizations = c.in_ok-changed.ensures.realizations ∙ c.rounds.invariant.realizations;
}

pub returns-then-not-changed : goal.returns-then-not-changed
returns-then-not-changed c = record {
  names = bound_is_greatest _ _ _ _ _ (c.in_ok-changed.ensures.bound _ c.rounds.invariant.bound) (c.in_ok-changed.ensures.fit c.if-not-changed.true);
  realizations = c.in_ok-changed.ensures.realizations ∙ c.rounds.invariant.realizations;
  fit = c.in_ok-changed.ensures.fit c.if-not-changed.true;
}
