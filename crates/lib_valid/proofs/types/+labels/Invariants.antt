use Rattle.std.proofs.Common.{take}
use Rattle.std.specs.List.{All}
use Rattle.type_core.specs.declared.ty.Field.{Field}
use Rattle.type_core.specs.declared.ty.Ty.{Ty}
use Rattle.type_core.specs.ValidLibrary.{IsLabel}
use Rattle.type_core.specs.Weight.{labels_of}
use Rattle.lib_valid.proofs.types.+labels.Given as goal

abbrev pub invariant-have_labels-loop-part : goal.invariant-have_labels-loop-part
invariant-have_labels-loop-part l = All (λ (part : Ty). All IsLabel (labels_of part)) (take l.part-index l.parts)

abbrev pub invariant-fields_have_labels-loop-field : goal.invariant-fields_have_labels-loop-field
invariant-fields_have_labels-loop-field l =
    All (λ (field : Field). IsLabel field.label × All IsLabel (labels_of field.ty)) (take l.field-index l.fields)
