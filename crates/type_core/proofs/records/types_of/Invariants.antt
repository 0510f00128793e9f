use Rattle.std.proofs.Common.{◌≡◌, ◌++◌, map}
use Rattle.type_core.specs.declared.ty.Field.{Field}
use Rattle.type_core.proofs.records.types_of.Given as goal

abbrev pub invariant-loop-field : goal.invariant-loop-field
invariant-loop-field l = l.types ++ map (λ (field : Field). field.ty) l.field-iterator.rest.items ≡ map (λ (field : Field). field.ty) l.fn.fields.items
