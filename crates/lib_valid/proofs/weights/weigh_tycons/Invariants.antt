use Rattle.std.proofs.Common.{◌≡◌, ◌≤◌, ◌+◌, min, map, drop}
use Rattle.type_core.specs.Lists.{sum_of}
use Rattle.type_core.specs.Weight.{tycon_weight}
use Rattle.lib_valid.proofs.weights.weigh_tycons.Given as goal

abbrev pub invariant-loop-tycon : goal.invariant-loop-tycon
invariant-loop-tycon l =
    (l.total ≤ 0xffff_ffff_ffff_ffff)
    × (min (l.total + sum_of (map tycon_weight (drop l.tycon-index l.tycons))) 0xffff_ffff_ffff_ffff ≡ min
    (sum_of (map tycon_weight l.tycons)) 0xffff_ffff_ffff_ffff)
