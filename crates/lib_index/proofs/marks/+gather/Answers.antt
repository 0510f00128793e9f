use Rattle.std.proofs.Common.{ap, ◌∙◌}
use Rattle.std.proofs.lemmas.Result.{on_ok_weaker}
use Rattle.type_core.specs.Variables.{variables}
use Rattle.lib_index.specs.Marks.{marks_met}
use Rattle.lib_index.proofs.Meeting.{meet_arrow}
use Rattle.lib_index.proofs.marks.+gather.Goals as goal

pub gather-returns-in_ok-gather-in-Arrow : goal.gather-returns-in_ok-gather-in-Arrow
gather-returns-in_ok-gather-in-Arrow t c = record {
  met = on_ok_weaker c.gather-in-Arrow.result (λ e. meet_arrow _ _ _ _ _ _ c.in-Arrow.is
      (c.in_ok-gather-in-Arrow.ensures.met ∙ ap (λ z. marks_met c.args.met.now (variables z)) c.get.ensures.value)
      (e ∙ ap (λ z. marks_met c.gather.new.met
      (variables z)) c.get-in-Arrow.ensures.value)) c.gather-in-Arrow.ensures.met;
}
