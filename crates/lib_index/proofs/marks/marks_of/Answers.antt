use Rattle.std.proofs.Common.{ap, ◌∙◌}
use Rattle.lib_index.specs.Marks.{marks_met}
use Rattle.lib_index.proofs.SchemeMarks.{met_are_marks}
use Rattle.type_core.specs.Variables.{variables}
use Rattle.lib_index.proofs.marks.marks_of.Goals as goal

pub returns : goal.returns
returns c = record {
  value = c.in_ok-gather.ensures.met ∙ ap (λ met. marks_met met
      (variables c.args.scheme.now.body)) c.new-met.ensures.empty ∙ met_are_marks c.args.scheme.now c.requires.scheme;
}
