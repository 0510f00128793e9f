use Rattle.std.proofs.Common.{◌≡◌, map, drop}
use Rattle.type_core.specs.AdmitsEquality.{admits_equality, field_admits_equality}
use Rattle.type_core.specs.Lists.{all_true}
use Rattle.type_core.proofs.admits.+admits.Given as goal

abbrev pub invariant-all_admit-loop-part : goal.invariant-all_admit-loop-part
invariant-all_admit-loop-part l = all_true (map (admits_equality l.names) (drop l.part-index l.parts)) ≡ all_true (map (admits_equality l.names) l.parts)

abbrev pub invariant-fields_admit-loop-field : goal.invariant-fields_admit-loop-field
invariant-fields_admit-loop-field l = all_true (map (field_admits_equality l.names) (drop l.field-index l.fields)) ≡ all_true (map (field_admits_equality l.names) l.fields)
