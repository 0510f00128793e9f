use Rattle.std.proofs.Common.{◌≡◌, map, drop}
use Rattle.type_core.specs.Lists.{all_true}
use Rattle.type_core.specs.Substitution.{allows, each_field_variable, each_variable}
use Rattle.type_core.proofs.substitution.+variables.Given as goal

abbrev pub invariant-all_variables_are-loop-part : goal.invariant-all_variables_are-loop-part
invariant-all_variables_are-loop-part l = all_true (map (each_variable (allows l.below l.marks)) (drop l.part-index l.parts)) ≡ all_true (map (each_variable (allows l.below l.marks)) l.parts)

abbrev pub invariant-field_variables_are-loop-field : goal.invariant-field_variables_are-loop-field
invariant-field_variables_are-loop-field l = all_true (map (each_field_variable (allows l.below l.marks)) (drop l.field-index l.fields)) ≡ all_true (map (each_field_variable (allows l.below l.marks)) l.fields)
