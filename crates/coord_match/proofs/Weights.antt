-- How much is left of goals, by which the search ends.
use Rattle.std.proofs.Common.{ℕ, ◌+◌, ◌*◌, List, [], ◌∷◌}
use Rattle.iso_normal.specs.Shapes.{nodes_of}
use Rattle.coord_match.specs.search.Tasks.{Goal}

abbrev pub weight : List Goal → ℕ
weight [] = 0
weight (goal ∷ goals) = (1 + 2 * nodes_of goal.left) + weight goals
