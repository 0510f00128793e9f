-- The least of the consistent pairings, and the least of those with identical heads.
use Rattle.std.specs.Prelude.{◌≡◌, List}
use Rattle.type_core.specs.declared.coordinate.Coordinate.{Coordinate}
use Rattle.type_core.specs.Renaming.{Renaming}
use Rattle.iso_normal.specs.declared.pair_tree.PairTree.{PairTree}
use Rattle.iso_normal.specs.Consistency.{IsConsistent}
use Rattle.iso_normal.specs.PairTrees.{word_of}
use Rattle.iso_normal.specs.Pairings.{Pairs}
use Rattle.iso_normal.specs.WordOrder.{IsNotAfter}

-- p is consistent under r, and no consistent pairing, whatever its renaming, has a word before that of p
pub record IsLeast (r : Renaming) (a b : List Coordinate) (p : PairTree) : Type 0 where
  pub consistent : IsConsistent r a b p
  pub least : (s : Renaming) (q : PairTree) → IsConsistent s a b q → IsNotAfter (word_of p) (word_of q)

-- p pairs coordinates with identical heads at every depth, and no pairing that does has a word before that of p
pub record IsLeastIdentical (a b : List Coordinate) (p : PairTree) : Type 0 where
  pub pairs : Pairs ◌≡◌ a b p
  pub least : (q : PairTree) → Pairs ◌≡◌ a b q → IsNotAfter (word_of p) (word_of q)
