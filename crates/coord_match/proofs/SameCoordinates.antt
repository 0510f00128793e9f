-- Coordinates of the same arguments and head are one.
use Rattle.std.proofs.Common.{◌≡◌, sym, ap₂, ◌∙◌}
use Rattle.type_core.specs.declared.coordinate.Coordinate.{Coordinate}
use Rattle.type_core.specs.declared.coordinate.Coordinate.TheViews.{roll-out-Coordinate}
use Rattle.type_core.specs.Coordinates.{arguments_of, coordinate, head_of}

pub coordinate_eq : (a b : Coordinate) → arguments_of a ≡ arguments_of b → head_of a ≡ head_of b → a ≡ b
coordinate_eq a b e f = sym (roll-out-Coordinate a) ∙ ap₂ coordinate e f ∙ roll-out-Coordinate b
