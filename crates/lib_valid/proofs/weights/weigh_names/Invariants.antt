use Rattle.std.proofs.Common.{◌≡◌, ◌≤◌, ◌+◌, min, map, drop}
use Rattle.type_core.specs.Lists.{sum_of}
use Rattle.type_core.specs.Weight.{name_weight}
use Rattle.lib_valid.proofs.weights.weigh_names.Given as goal

abbrev pub invariant-loop-name : goal.invariant-loop-name
invariant-loop-name l =
    (l.total ≤ 0xffff_ffff_ffff_ffff)
    × (min (l.total + sum_of (map name_weight (drop l.name-index l.names))) 0xffff_ffff_ffff_ffff ≡ min
    (sum_of (map name_weight l.names)) 0xffff_ffff_ffff_ffff)
