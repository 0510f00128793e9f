use Rattle.std.proofs.Common.{◌≡◌, map, drop}
use Rattle.type_core.specs.Coordinates.{coordinate_count}
use Rattle.type_core.specs.Lists.{sum_of}
use Rattle.iso_normal.proofs.coordinates.+nothing.Given as goal

abbrev pub invariant-all_give_nothing-loop-part : goal.invariant-all_give_nothing-loop-part
invariant-all_give_nothing-loop-part l = sum_of (map coordinate_count (drop l.part-index l.parts)) ≡ sum_of (map coordinate_count l.parts)
