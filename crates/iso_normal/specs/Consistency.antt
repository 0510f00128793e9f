-- Pairings that are consistent under a renaming of variables.
use Rattle.std.specs.Prelude.{◌≡◌, List, ◌++◌, map}
use Rattle.type_core.specs.declared.coordinate.Coordinate.{Coordinate}
use Rattle.type_core.specs.declared.coordinate.Coordinate.TheOpen.{Coordinate-F}
use Rattle.type_core.specs.declared.coordinate.Coordinate.TheFolds.{fold-Coordinate}
use Rattle.type_core.specs.declared.ty.VarId.{VarId}
use Rattle.type_core.specs.declared.ty.Ty.{Ty}
use Rattle.type_core.specs.Coordinates.{coordinate}
use Rattle.type_core.specs.Lists.{concatenated}
use Rattle.type_core.specs.Renaming.{IsOneToOne, KeepsMarks, Renaming, renamed}
use Rattle.type_core.specs.Variables.{variables}
use Rattle.iso_normal.specs.declared.pair_tree.PairTree.{PairTree}
use Rattle.iso_normal.specs.Pairings.{Pairs}

-- those of the head, and those of the arguments
abbrev pub variables_step : Coordinate-F (List VarId) → List VarId
variables_step c = variables c.head ++ concatenated c.arguments

-- the variables of all heads in the coordinate, at every depth
abbrev pub coordinate_variables : Coordinate → List VarId
coordinate_variables = fold-Coordinate (List VarId) variables_step

-- the variables of all heads in the coordinates, at every depth
abbrev pub variables_among : List Coordinate → List VarId
variables_among cs = concatenated (map coordinate_variables cs)

-- the renaming turns one type into the other
abbrev pub Turns : Renaming → Ty → Ty → Type 0
Turns r t u = renamed r t ≡ u

abbrev pub renamed_step : Renaming → Coordinate-F Coordinate → Coordinate
renamed_step r c = coordinate c.arguments (renamed r c.head)

-- the coordinate with the variables of all its heads renamed
abbrev pub renamed_coordinate : Renaming → Coordinate → Coordinate
renamed_coordinate r = fold-Coordinate Coordinate (renamed_step r)

-- p pairs c with d, and r turns each head of c, at every depth, into its partner's head; r sends no two variables of c
-- to one, and keeps their marks
pub record IsConsistent (r : Renaming) (c d : List Coordinate) (p : PairTree) : Type 0 where
  pub one_to_one : IsOneToOne r (variables_among c)
  pub keeps_marks : KeepsMarks r (variables_among c)
  pub pairs : Pairs (Turns r) c d p
