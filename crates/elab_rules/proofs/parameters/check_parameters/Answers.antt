use Rattle.std.proofs.Common.{is_some, refl, ap}
use Rattle.elab_rules.proofs.ParameterTexts.{not_repeated, repeated, seen_more}
use Rattle.elab_rules.proofs.parameters.check_parameters.Goals as goal

pub loop-token-init : goal.loop-token-init
loop-token-init c = record { checked = refl; seen = λ text. ap is_some (c.new-seen.ensures.empty text) }

pub returns-then-has : goal.returns-then-has
returns-then-has c = record {
  outcome = repeated _ _ _ _ _ c.text-text.result.now _ _ _ c.loop-token-test.true refl c.text-text.ensures.value c.has.ensures.value (c.loop-token.invariant.seen c.text-text.result.now) c.if-has.true c.loop-token.invariant.checked;
}

pub loop-token-preserved : goal.loop-token-preserved
loop-token-preserved c = record {
  checked = not_repeated _ _ _ _ _ c.text-text.result.now _ _ _ c.loop-token-test.true refl c.text-text.ensures.value c.has.ensures.value (c.loop-token.invariant.seen c.text-text.result.now) c.if-has.false c.loop-token.invariant.checked;
  seen = λ other. seen_more _ _ _ _ _ c.text-text.result.now other _ _ c.loop-token-test.true refl c.text-text.ensures.value (c.loop-token.invariant.seen other) (c.in_ok-insert.ensures.inserted other);
}
