use Rattle.std.proofs.Common.{◌≡◌, ◌≤◌, ◌+◌, min, map, drop}
use Rattle.type_core.specs.Lists.{sum_of}
use Rattle.type_core.specs.Weight.{member_weight}
use Rattle.lib_valid.proofs.weights.weigh_members.Given as goal

abbrev pub invariant-loop-member : goal.invariant-loop-member
invariant-loop-member l =
    (l.total ≤ 0xffff_ffff_ffff_ffff)
    × (min (l.total + sum_of (map member_weight (drop l.member-index l.members))) 0xffff_ffff_ffff_ffff ≡ min
    (sum_of (map member_weight l.members)) 0xffff_ffff_ffff_ffff)
