use Rattle.std.proofs.Common.{◌≤◌, ◌^◌, map, drop}
use Rattle.conv_terms.specs.Levels.{levels_of_all}
use Rattle.conv_terms.specs.Shifting.{shifted}
use Rattle.conv_plain.proofs.room.+room.Given as goal

abbrev pub invariant-all_have_room-loop-t : goal.invariant-all_have_room-loop-t
invariant-all_have_room-loop-t l = levels_of_all (map (shifted l.from l.by) (drop l.t-index l.terms)) ≤ 2 ^ 32 → levels_of_all (map (shifted l.from l.by) l.terms) ≤ 2 ^ 32
