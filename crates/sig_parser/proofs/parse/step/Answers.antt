use Rattle.std.proofs.Common.{sym, refl, arith}
use Rattle.sig_parser.proofs.Reading.{step_none, step_some, step_too_deep, step_low}
use Rattle.sig_parser.proofs.parse.step.Goals as goal

pub returns-then-not-can-clause-refusal : goal.returns-then-not-can-clause-refusal
returns-then-not-can-clause-refusal c = (refl, step_none _ _ _ _ _ c.in_ok-can.ensures.value c.if-not-can.true)

pub depth-requires : goal.depth-requires
depth-requires c = let low = step_low _ _ _ _ c.requires.low (step_some _ _ _ _ _ c.in_ok-can.ensures.value c.if-not-can.false) in record { small = omega (arith, low) }

pub returns-then-depth-gt-MOST_OPEN-clause-refusal : goal.returns-then-depth-gt-MOST_OPEN-clause-refusal
returns-then-depth-gt-MOST_OPEN-clause-refusal c = step_too_deep _ _ _ _ _ c.in_ok-can.ensures.value c.if-not-can.false (omega (arith, c.if-depth-gt-MOST_OPEN.true, c.depth.ensures.value))

pub returns-clause-next : goal.returns-clause-next
returns-clause-next c = sym (step_some _ _ _ _ _ c.in_ok-can.ensures.value c.if-not-can.false)

pub returns-clause-low : goal.returns-clause-low
returns-clause-low c = omega (arith, c.if-depth-gt-MOST_OPEN.false, c.depth.ensures.value)
