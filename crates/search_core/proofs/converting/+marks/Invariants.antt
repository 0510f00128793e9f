use Rattle.std.proofs.Common.{◌≡◌, map, drop}
use Rattle.type_core.specs.Lists.{concatenated}
use Rattle.type_core.specs.Variables.{field_variables, occurs, variables}
use Rattle.search_core.specs.Converters.{marked}
use Rattle.search_core.proofs.converting.+marks.Given as goal

abbrev pub invariant-any_has_mark-loop-part : goal.invariant-any_has_mark-loop-part
invariant-any_has_mark-loop-part l =
    occurs (marked l.n) (concatenated (map variables (drop l.part-index l.parts)))
    ≡ occurs (marked l.n) (concatenated (map variables l.parts))

abbrev pub invariant-any_field_has_mark-loop-field : goal.invariant-any_field_has_mark-loop-field
invariant-any_field_has_mark-loop-field l =
    occurs (marked l.n) (concatenated (map field_variables (drop l.field-index l.fields)))
    ≡ occurs (marked l.n) (concatenated (map field_variables l.fields))
