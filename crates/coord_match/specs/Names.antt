-- A renaming as a list: for each variable number its partner.
use Rattle.std.specs.Prelude.{◌≡◌, ◌≢◌, ℕ, ◌+◌, ◌<◌, IsTrue, List, [], ◌∷◌, Option, Some, None, length, max, slice_get}
use Rattle.type_core.specs.declared.coordinate.Coordinate.{Coordinate}
use Rattle.type_core.specs.declared.ty.VarId.{VarId}
use Rattle.type_core.specs.Renaming.{Renaming}
use Rattle.type_core.specs.Variables.{occurs}
use Rattle.iso_normal.specs.declared.pair_tree.PairTree.{PairTree}
use Rattle.iso_normal.specs.PairTrees.{word_of}
use Rattle.iso_normal.specs.Consistency.{variables_among}
use Rattle.coord_match.specs.LeastPairing.{IsLeast}

-- a number has one mark: variables of one number are one variable
abbrev pub HaveOneMark : List VarId → Type 0
HaveOneMark vs = (v w : VarId) → IsTrue (occurs v vs) → IsTrue (occurs w vs) → v.n ≡ w.n → v ≡ w

-- one more than the greatest number among the variables, and 0 where there is none
abbrev pub number_bound : List VarId → ℕ
number_bound [] = 0
number_bound (v ∷ vs) = max (v.n + 1) (number_bound vs)

-- the list tells for each number up to the greatest of the variables what the renaming makes of the variable of this
-- number, and nothing for the other numbers
pub record Tells (names : List (Option VarId)) (r : Renaming) (vs : List VarId) : Type 0 where
  pub long : length names ≡ number_bound vs
  pub partners : (v : VarId) → IsTrue (occurs v vs) → slice_get names v.n ≡ Some (Some (r v))
  pub others : (n : ℕ) → n < length names → ((v : VarId) → IsTrue (occurs v vs) → v.n ≢ n) → slice_get names n ≡ Some None

-- the word is that of the least consistent pairing of a with b, and the names are its renaming
abbrev pub IsFirst : List Coordinate → List Coordinate → List ℕ → List (Option VarId) → Type 0
IsFirst a b word names = (r : Renaming) × (p : PairTree) × IsLeast r a b p × (word ≡ word_of p) × Tells names r (variables_among a)
