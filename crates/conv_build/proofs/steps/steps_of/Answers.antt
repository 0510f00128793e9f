use Rattle.std.proofs.Common.{◌∙◌, ap, length, slice_get, sym}
use Rattle.conv_build.proofs.LeadingSteps.{all_steps, steps_lead, steps_length}
use Rattle.conv_build.proofs.steps.steps_of.Goals as goal

pub returns : goal.returns
returns c =
    let whole = all_steps c.args.t.now _ _ _ c.new-before.ensures.empty c.new-all.ensures.empty c.in_ok-push_steps.ensures.pushed in
    record {
      count = ap length whole ∙ steps_length c.args.t.now;
      lead = λ place steps at. steps_lead c.args.t.now place steps (ap (λ all. slice_get all place) (sym whole) ∙ at);
    }
