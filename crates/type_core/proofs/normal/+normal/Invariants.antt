use Rattle.std.proofs.Common.{◌≡◌, ◌≤◌, ◌+◌, min, map, drop}
use Rattle.type_core.specs.Coordinates.{coordinate_count}
use Rattle.type_core.specs.Lists.{sum_of}
use Rattle.type_core.specs.NormalSize.{normal_size_of}
use Rattle.type_core.proofs.normal.+normal.Given as goal

abbrev pub invariant-measure_all-loop-part : goal.invariant-measure_all-loop-part
invariant-measure_all-loop-part l = record {
  few : l.total.coordinates ≤ 0xffff_ffff_ffff_ffff;
  coordinates : min (l.total.coordinates + sum_of (map coordinate_count (drop l.part-index l.parts))) 0xffff_ffff_ffff_ffff ≡ min (sum_of (map coordinate_count l.parts)) 0xffff_ffff_ffff_ffff;
  small : l.total.size ≤ 0xffff_ffff_ffff_ffff;
  size : min (l.total.size + sum_of (map normal_size_of (drop l.part-index l.parts))) 0xffff_ffff_ffff_ffff ≡ min (sum_of (map normal_size_of l.parts)) 0xffff_ffff_ffff_ffff;
}
