use Rattle.std.proofs.Common.{◌≡◌, ◌++◌, ◌≤◌, ◌^◌, map, drop}
use Rattle.conv_terms.specs.Levels.{levels_of_all}
use Rattle.conv_terms.specs.Shifting.{shifted}
use Rattle.conv_terms.proofs.shifting.+shift.Given as goal

abbrev pub invariant-shift_all-loop-component : goal.invariant-shift_all-loop-component
invariant-shift_all-loop-component l =
    (l.done ++ map (shifted l.from l.by) (drop l.component-index l.components) ≡ map (shifted l.from l.by) l.components)
    × (levels_of_all (map (shifted l.from l.by) (drop l.component-index l.components)) ≤ 2 ^ 32)
