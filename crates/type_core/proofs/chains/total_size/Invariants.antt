use Rattle.std.proofs.Common.{◌≡◌, ◌≤◌, ◌+◌, min, map, drop}
use Rattle.type_core.specs.Lists.{sum_of}
use Rattle.type_core.specs.Size.{size_of}
use Rattle.type_core.proofs.chains.total_size.Given as goal

abbrev pub invariant-loop-part : goal.invariant-loop-part
invariant-loop-part l =
    (l.total ≤ 0xffff_ffff_ffff_ffff)
    × (min (l.total + sum_of (map size_of (drop l.part-index l.parts))) 0xffff_ffff_ffff_ffff ≡ min (sum_of (map size_of l.parts)) 0xffff_ffff_ffff_ffff)
