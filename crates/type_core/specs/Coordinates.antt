-- The coordinates of a type: what it gives, each with the arguments that it takes.
use Rattle.std.specs.Prelude.{ℕ, ◌+◌, List, [], ◌∷◌, ◌++◌, length, map}
use Rattle.type_core.specs.declared.coordinate.Coordinate.{Coordinate}
use Rattle.type_core.specs.declared.coordinate.Coordinate.TheOpen.{Coordinate-F}
use Rattle.type_core.specs.declared.coordinate.Coordinate.TheFolds.{fold-Coordinate}
use Rattle.type_core.specs.declared.coordinate.Coordinate.TheViews.{out-Coordinate, roll-Coordinate}
use Rattle.type_core.specs.declared.ty.Ty.{Ty}
use Rattle.type_core.specs.declared.ty.Ty.TheVariants as ty
use Rattle.type_core.specs.declared.ty.Field.{Field}
use Rattle.type_core.specs.declared.ty.Ty.TheOpen.{Ty-F, Var, Con, Rec, Tup, Arrow}
use Rattle.type_core.specs.declared.ty.Ty.TheFolds.{para-Ty}
use Rattle.type_core.specs.Lists.{concatenated, sum_of}
use Rattle.type_core.specs.Size.{size_of}

-- the coordinate of these arguments and this head
abbrev pub coordinate : List Coordinate → Ty → Coordinate
coordinate arguments head = roll-Coordinate (record { arguments = arguments; head = head })

abbrev pub arguments_of : Coordinate → List Coordinate
arguments_of c = (out-Coordinate c).arguments

abbrev pub head_of : Coordinate → Ty
head_of c = (out-Coordinate c).head

-- an atom is one coordinate, without arguments
abbrev pub atom : Ty → List Coordinate
atom t = coordinate [] t ∷ []

-- the coordinate with more arguments before its own
abbrev pub taking : List Coordinate → Coordinate → Coordinate
taking first c = coordinate (first ++ arguments_of c) (head_of c)

-- each part stands beside its coordinates: variables, applications and records are atoms, a tuple has the
-- coordinates of its components, and an arrow those of its right side, each taking those of its left side
abbrev pub coordinates_step : Ty-F (Ty × List Coordinate) (Field × Unit {0}) → List Coordinate
coordinates_step (Var v) = atom (ty.Var v)
coordinates_step (Con name arguments) = atom (ty.Con name (map (λ part. part.0) arguments))
coordinates_step (Rec fields) = atom (ty.Rec (map (λ part. part.0) fields))
coordinates_step (Tup components) = concatenated (map (λ part. part.1) components)
coordinates_step (Arrow from to) = map (taking from.1) to.1

-- the coordinates of the type
unfoldable pub coordinates : Ty → List Coordinate
coordinates = para-Ty (List Coordinate) (Unit {0}) coordinates_step (λ field. tt)

-- how many coordinates the type has
unfoldable pub coordinate_count : Ty → ℕ
coordinate_count t = length (coordinates t)

-- the size of the head, and those of the arguments
abbrev pub coordinate_size_step : Coordinate-F ℕ → ℕ
coordinate_size_step c = size_of c.head + sum_of c.arguments

-- the size of the coordinate
abbrev pub coordinate_size : Coordinate → ℕ
coordinate_size = fold-Coordinate ℕ coordinate_size_step
