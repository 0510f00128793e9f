-- Pairings of two lists of coordinates.
use Rattle.std.specs.Prelude.{◌≡◌, List, [], ◌∷◌, Some, length, slice_get}
use Rattle.type_core.specs.declared.coordinate.Coordinate.{Coordinate}
use Rattle.type_core.specs.declared.ty.Ty.{Ty}
use Rattle.type_core.specs.Coordinates.{arguments_of, head_of}
use Rattle.type_core.specs.ValidLibrary.{AreDistinct}
use Rattle.iso_normal.specs.declared.pair_tree.PairTree.{PairTree}
use Rattle.iso_normal.specs.declared.pair_tree.Entry.{Entry}
use Rattle.iso_normal.specs.PairTrees.{args_of, entries_of, place_of, places_of}

mutual
  -- p is a pairing of c with d: each coordinate of c has a place in d of its own, and so has each argument among its
  -- partner's; each head stands in the relation to its partner's head
  pub data Pairs (Heads : Ty → Ty → Type 0) : List Coordinate → List Coordinate → PairTree → Type 0 where
    pairs : {c d : List Coordinate} {p : PairTree} → length c ≡ length d → AreDistinct (places_of (entries_of p)) → PairEach Heads c d (entries_of p) → Pairs Heads c d p

  -- the entries, in order, give for each of the first list a partner in the second
  pub data PairEach (Heads : Ty → Ty → Type 0) : List Coordinate → List Coordinate → List Entry → Type 0 where
    none : {d : List Coordinate} → PairEach Heads [] d []
    more : {a b : Coordinate} {c d : List Coordinate} {e : Entry} {entries : List Entry}
        → slice_get d (place_of e) ≡ Some b → Heads (head_of a) (head_of b) → Pairs Heads (arguments_of a) (arguments_of b) (args_of e)
        → PairEach Heads c d entries → PairEach Heads (a ∷ c) d (e ∷ entries)
