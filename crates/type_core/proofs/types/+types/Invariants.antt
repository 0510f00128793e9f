use Rattle.std.proofs.Common.{◌≡◌, map, drop}
use Rattle.type_core.specs.declared.ty.Field.{Field}
use Rattle.type_core.specs.Lists.{all_true}
use Rattle.type_core.specs.Types.{is_type}
use Rattle.type_core.proofs.types.+types.Given as goal

abbrev pub invariant-are_types-loop-part : goal.invariant-are_types-loop-part
invariant-are_types-loop-part l = all_true (map is_type (drop l.part-index l.parts)) ≡ all_true (map is_type l.parts)

abbrev pub invariant-field_types_are-loop-field : goal.invariant-field_types_are-loop-field
invariant-field_types_are-loop-field l = all_true (map (λ (field : Field). is_type field.ty) (drop l.field-index l.fields)) ≡ all_true (map (λ (field : Field). is_type field.ty) l.fields)
