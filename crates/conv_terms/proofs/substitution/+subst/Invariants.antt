use Rattle.std.proofs.Common.{◌≡◌, ◌++◌, ◌+◌, ◌<◌, ◌≤◌, ◌^◌, map, drop}
use Rattle.conv_terms.specs.Levels.{levels_of_all, nesting_of_all}
use Rattle.conv_terms.specs.Substitution.{traversed, image, each_below}
use Rattle.conv_terms.proofs.substitution.+subst.Given as goal

abbrev pub invariant-subst_all-loop-component : goal.invariant-subst_all-loop-component
invariant-subst_all-loop-component l =
    (l.done ++ each_below (map (traversed (image l.level l.by)) (drop l.component-index l.components)) l.depth ≡ each_below (map (traversed (image l.level l.by)) l.components) l.depth)
    × (levels_of_all (each_below (map (traversed (image l.level l.by)) (drop l.component-index l.components)) l.depth) ≤ 2 ^ 32)
    × (l.depth + nesting_of_all (drop l.component-index l.components) < 2 ^ 32)
