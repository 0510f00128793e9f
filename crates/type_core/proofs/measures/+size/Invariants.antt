use Rattle.std.proofs.Common.{◌≡◌, ◌≤◌, ◌+◌, min, map, drop}
use Rattle.type_core.specs.Lists.{sum_of}
use Rattle.type_core.specs.Size.{size_of, field_size}
use Rattle.type_core.proofs.measures.+size.Given as goal

abbrev pub invariant-total_size-loop-part : goal.invariant-total_size-loop-part
invariant-total_size-loop-part l = (l.total ≤ 0xffff_ffff_ffff_ffff) × (min (l.total + sum_of (map size_of (drop l.part-index l.parts))) 0xffff_ffff_ffff_ffff ≡ min (sum_of (map size_of l.parts)) 0xffff_ffff_ffff_ffff)

abbrev pub invariant-total_field_size-loop-field : goal.invariant-total_field_size-loop-field
invariant-total_field_size-loop-field l = (l.total ≤ 0xffff_ffff_ffff_ffff) × (min (l.total + sum_of (map field_size (drop l.field-index l.fields))) 0xffff_ffff_ffff_ffff ≡ min (sum_of (map field_size l.fields)) 0xffff_ffff_ffff_ffff)
