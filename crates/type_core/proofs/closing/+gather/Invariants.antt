use Rattle.std.proofs.Common.{◌≡◌, map, drop}
use Rattle.type_core.specs.Lists.{concatenated}
use Rattle.type_core.specs.Variables.{variables, field_variables, meet_all}
use Rattle.type_core.proofs.closing.+gather.Given as goal

abbrev pub invariant-gather_all-loop-part : goal.invariant-gather_all-loop-part
invariant-gather_all-loop-part l = meet_all l.met (concatenated (map variables (drop l.part-index l.parts))) ≡ meet_all l.fn.met (concatenated (map variables l.parts))

abbrev pub invariant-gather_fields-loop-field : goal.invariant-gather_fields-loop-field
invariant-gather_fields-loop-field l = meet_all l.met (concatenated (map field_variables (drop l.field-index l.fields))) ≡ meet_all l.fn.met (concatenated (map field_variables l.fields))
