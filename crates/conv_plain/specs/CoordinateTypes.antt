-- The types of coordinates.
use Rattle.std.specs.Prelude.{List, map}
use Rattle.type_core.specs.declared.ty.Ty.{Ty}
use Rattle.type_core.specs.declared.coordinate.Coordinate.{Coordinate}
use Rattle.type_core.specs.declared.coordinate.Coordinate.TheOpen.{Coordinate-F}
use Rattle.type_core.specs.declared.coordinate.Coordinate.TheFolds.{fold-Coordinate}
use Rattle.type_core.specs.Coordinates.{coordinates}
use Rattle.conv_plain.specs.Functions.{arrows}

abbrev pub coordinate_type_step : Coordinate-F Ty → Ty
coordinate_type_step c = arrows c.arguments c.head

-- T1 -> .. -> Tm -> h, where T1 to Tm are the types of the arguments and h is the head
unfoldable pub coordinate_type : Coordinate → Ty
coordinate_type = fold-Coordinate Ty coordinate_type_step

-- the types of the coordinates
abbrev pub types_of : List Coordinate → List Ty
types_of cs = map coordinate_type cs

-- the types of the coordinates of the type
abbrev pub coordinate_types : Ty → List Ty
coordinate_types t = types_of (coordinates t)
