use Rattle.std.proofs.Common.{◌≡◌, map, drop}
use Rattle.type_core.specs.declared.ty.Field.{Field}
use Rattle.type_core.specs.Lists.{all_true}
use Rattle.type_core.specs.Types.{is_over}
use Rattle.type_core.proofs.types.+over.Given as goal

abbrev pub invariant-all_over-loop-part : goal.invariant-all_over-loop-part
invariant-all_over-loop-part l = all_true (map (is_over l.names) (drop l.part-index l.parts)) ≡ all_true (map (is_over l.names) l.parts)

abbrev pub invariant-fields_over-loop-field : goal.invariant-fields_over-loop-field
invariant-fields_over-loop-field l = all_true (map (λ (field : Field). is_over l.names field.ty) (drop l.field-index l.fields)) ≡ all_true (map (λ (field : Field). is_over l.names field.ty) l.fields)
