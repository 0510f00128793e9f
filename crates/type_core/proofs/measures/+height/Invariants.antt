use Rattle.std.proofs.Common.{◌≡◌, ◌≤◌, min, max, map, drop}
use Rattle.type_core.specs.Lists.{greatest_of}
use Rattle.type_core.specs.Height.{height_of, field_height}
use Rattle.type_core.proofs.measures.+height.Given as goal

abbrev pub invariant-greatest_height-loop-part : goal.invariant-greatest_height-loop-part
invariant-greatest_height-loop-part l = (l.greatest ≤ 0xffff_ffff_ffff_ffff) × (min (max l.greatest (greatest_of (map height_of (drop l.part-index l.parts)))) 0xffff_ffff_ffff_ffff ≡ min (greatest_of (map height_of l.parts)) 0xffff_ffff_ffff_ffff)

abbrev pub invariant-greatest_field_height-loop-field : goal.invariant-greatest_field_height-loop-field
invariant-greatest_field_height-loop-field l = (l.greatest ≤ 0xffff_ffff_ffff_ffff) × (min (max l.greatest (greatest_of (map field_height (drop l.field-index l.fields)))) 0xffff_ffff_ffff_ffff ≡ min (greatest_of (map field_height l.fields)) 0xffff_ffff_ffff_ffff)
