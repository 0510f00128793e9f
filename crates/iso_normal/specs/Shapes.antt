-- How many coordinates stand in a list at all depths, and which trees have an entry for each of them.
use Rattle.std.specs.Prelude.{ℕ, ◌+◌, List, [], ◌∷◌, map}
use Rattle.type_core.specs.declared.coordinate.Coordinate.{Coordinate}
use Rattle.type_core.specs.declared.coordinate.Coordinate.TheOpen.{Coordinate-F}
use Rattle.type_core.specs.declared.coordinate.Coordinate.TheFolds.{fold-Coordinate}
use Rattle.type_core.specs.Coordinates.{arguments_of}
use Rattle.type_core.specs.Lists.{sum_of}
use Rattle.iso_normal.specs.declared.pair_tree.PairTree.{PairTree}
use Rattle.iso_normal.specs.declared.pair_tree.Entry.{Entry}
use Rattle.iso_normal.specs.PairTrees.{args_of, entries_of}

-- the coordinate itself, and those of its arguments
abbrev pub node_step : Coordinate-F ℕ → ℕ
node_step c = 1 + sum_of c.arguments

-- the number of coordinates in a list, with those of their arguments at all depths
unfoldable pub nodes_of : List Coordinate → ℕ
nodes_of cs = sum_of (map (fold-Coordinate ℕ node_step) cs)

mutual
  -- the tree has one entry for each coordinate of the list, and its entries' trees for their arguments
  pub data HasShape : List Coordinate → PairTree → Type 0 where
    shape : {c : List Coordinate} {p : PairTree} → HaveShapes c (entries_of p) → HasShape c p

  -- an entry for each coordinate
  pub data HaveShapes : List Coordinate → List Entry → Type 0 where
    none : HaveShapes [] []
    more : {a : Coordinate} {c : List Coordinate} {e : Entry} {entries : List Entry} → HasShape (arguments_of a) (args_of e) → HaveShapes c entries → HaveShapes (a ∷ c) (e ∷ entries)
