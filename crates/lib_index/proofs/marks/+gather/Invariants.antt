use Rattle.std.proofs.Common.{◌≡◌, map, drop}
use Rattle.lib_index.specs.Marks.{marks_met}
use Rattle.type_core.specs.Lists.{concatenated}
use Rattle.type_core.specs.Variables.{variables, field_variables}
use Rattle.lib_index.proofs.marks.+gather.Given as goal

abbrev pub invariant-gather_all-loop-part : goal.invariant-gather_all-loop-part
invariant-gather_all-loop-part l = marks_met l.met (concatenated (map variables (drop l.part-index l.parts)))
    ≡ marks_met l.fn.met (concatenated (map variables l.parts))

abbrev pub invariant-gather_fields-loop-field : goal.invariant-gather_fields-loop-field
invariant-gather_fields-loop-field l = marks_met l.met (concatenated (map field_variables
    (drop l.field-index l.fields))) ≡ marks_met l.fn.met (concatenated (map field_variables l.fields))
