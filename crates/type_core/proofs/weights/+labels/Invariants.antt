use Rattle.std.proofs.Common.{◌≡◌, ◌≤◌, ◌+◌, min, map, drop, length}
use Rattle.type_core.specs.declared.ty.Field.{Field}
use Rattle.type_core.specs.Lists.{sum_of}
use Rattle.type_core.specs.Weight.{label_bytes}
use Rattle.type_core.proofs.weights.+labels.Given as goal

abbrev pub invariant-total_bytes-loop-part : goal.invariant-total_bytes-loop-part
invariant-total_bytes-loop-part l =
    (l.total ≤ 0xffff_ffff_ffff_ffff)
    × (min (l.total + sum_of (map label_bytes (drop l.part-index l.parts))) 0xffff_ffff_ffff_ffff
    ≡ min (sum_of (map label_bytes l.parts)) 0xffff_ffff_ffff_ffff)

abbrev pub invariant-field_bytes-loop-field : goal.invariant-field_bytes-loop-field
invariant-field_bytes-loop-field l =
    (l.total ≤ 0xffff_ffff_ffff_ffff)
    × (min (l.total + sum_of (map (λ (field : Field). length field.label + label_bytes field.ty) (drop l.field-index l.fields))) 0xffff_ffff_ffff_ffff
    ≡ min (sum_of (map (λ (field : Field). length field.label + label_bytes field.ty) l.fields)) 0xffff_ffff_ffff_ffff)
