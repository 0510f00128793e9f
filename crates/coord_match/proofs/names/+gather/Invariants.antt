use Rattle.std.proofs.Common.{◌≡◌, ◌++◌, drop, map}
use Rattle.type_core.specs.Lists.{concatenated}
use Rattle.type_core.specs.Variables.{field_variables, variables}
use Rattle.coord_match.proofs.names.+gather.Given as goal

abbrev pub invariant-gather_all-loop-part : goal.invariant-gather_all-loop-part
invariant-gather_all-loop-part l = l.all ++ concatenated (map variables (drop l.part-index l.parts)) ≡ l.fn.all ++ concatenated (map variables l.parts)

abbrev pub invariant-gather_fields-loop-field : goal.invariant-gather_fields-loop-field
invariant-gather_fields-loop-field l = l.all ++ concatenated (map field_variables (drop l.field-index l.fields)) ≡ l.fn.all ++ concatenated (map field_variables l.fields)
