use Rattle.std.proofs.Common.{◌≡◌, ◌++◌, map, drop}
use Rattle.type_core.specs.Coordinates.{coordinates, taking}
use Rattle.type_core.specs.Lists.{concatenated}
use Rattle.iso_normal.proofs.coordinates.+add.Given as goal

abbrev pub invariant-add_all-loop-part : goal.invariant-add_all-loop-part
invariant-add_all-loop-part l =
    (l.arguments ≡ l.fn.arguments)
    × (l.done ++ map (taking l.fn.arguments) (concatenated (map coordinates (drop l.part-index l.parts))) ≡ l.fn.done ++ map (taking l.fn.arguments) (concatenated (map coordinates l.parts)))
