use Rattle.std.proofs.Common.{◌≡◌, ◌≤◌, ◌+◌, min, map, drop}
use Rattle.type_core.specs.Lists.{sum_of}
use Rattle.type_core.specs.Weight.{unit_weight}
use Rattle.lib_valid.proofs.weights.weigh_units.Given as goal

abbrev pub invariant-loop-unit : goal.invariant-loop-unit
invariant-loop-unit l =
    (l.total ≤ 0xffff_ffff_ffff_ffff)
    × (min (l.total + sum_of (map unit_weight (drop l.unit-index l.units))) 0xffff_ffff_ffff_ffff ≡ min
    (sum_of (map unit_weight l.units)) 0xffff_ffff_ffff_ffff)
