use Rattle.std.proofs.Common.{◌≡◌, ◌≤◌, ◌+◌, min, map, drop}
use Rattle.type_core.specs.declared.member.Member.{Member}
use Rattle.type_core.specs.Lists.{sum_of}
use Rattle.type_core.specs.NormalSize.{normal_size_of}
use Rattle.lib_valid.proofs.weights.normal_sizes.Given as goal

abbrev pub invariant-loop-member : goal.invariant-loop-member
invariant-loop-member l =
    (l.total ≤ 0xffff_ffff_ffff_ffff)
    × (min (l.total + sum_of (map (λ (member : Member). normal_size_of member.scheme.body)
    (drop l.member-index l.members))) 0xffff_ffff_ffff_ffff
    ≡ min (sum_of (map (λ (member : Member). normal_size_of member.scheme.body) l.members)) 0xffff_ffff_ffff_ffff)
