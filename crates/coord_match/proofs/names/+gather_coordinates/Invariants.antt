use Rattle.std.proofs.Common.{◌≡◌, ◌++◌, drop}
use Rattle.iso_normal.specs.Consistency.{variables_among}
use Rattle.coord_match.proofs.names.+gather_coordinates.Given as goal

abbrev pub invariant-loop-coordinate : goal.invariant-loop-coordinate
invariant-loop-coordinate l = l.all ++ variables_among (drop l.coordinate-index l.coordinates) ≡ l.fn.all ++ variables_among l.coordinates
