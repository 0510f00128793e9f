-- What is left to be paired, and the words that pair it.
use Rattle.std.specs.Prelude.{◌≡◌, ℕ, ◌<◌, ◌≤◌, ◌^◌, Bool, false, List, [], ◌∷◌, ◌++◌, Some, drop, length, map, reverse, slice_get}
use Rattle.type_core.specs.declared.coordinate.Coordinate.{Coordinate}
use Rattle.type_core.specs.declared.ty.Ty.{Ty}
use Rattle.type_core.specs.Renaming.{Renaming, renamed}
use Rattle.type_core.specs.ValidLibrary.{AreDistinct}
use Rattle.iso_normal.specs.declared.pair_tree.Entry.{Entry}
use Rattle.iso_normal.specs.declared.pair_tree.PairTree.{PairTree}
use Rattle.iso_normal.specs.PairTrees.{args_of, place_of, places_of, word_of}
use Rattle.iso_normal.specs.Pairings.{PairEach, Pairs}
use Rattle.iso_normal.specs.Shapes.{nodes_of}
use Rattle.coord_match.specs.declared.search.Task.{Task}
use Rattle.coord_match.specs.search.Bindings.{AreMatching, Allows, Bindings}
use Rattle.iso_normal.specs.Consistency.{Turns}
use Rattle.iso_normal.specs.WordOrder.{IsNotAfter}

-- coordinates that are still to be paired with others, of which some are taken
pub record Goal : Type 0 where
  pub left : List Coordinate
  pub others : List Coordinate
  pub taken : List Bool

-- for each entry the place, and then the word of its arguments
abbrev pub words : List Entry → List ℕ
words [] = []
words (e ∷ entries) = place_of e ∷ (word_of (args_of e) ++ words entries)

-- the place isn't taken
abbrev pub IsFree : List Bool → ℕ → Type 0
IsFree taken k = slice_get taken k ≡ Some false

abbrev pub AreFree : List Bool → List ℕ → Type 0
AreFree taken [] = Unit {0}
AreFree taken (k ∷ ks) = IsFree taken k × AreFree taken ks

-- the word pairs each goal in turn, with heads that stand in the relation
pub data Fills (Heads : Ty → Ty → Type 0) : List Goal → List ℕ → Type 0 where
  filled : Fills Heads [] []
  fill : {goal : Goal} {goals : List Goal} {rest word : List ℕ} (entries : List Entry)
      → PairEach Heads goal.left goal.others entries → AreDistinct (places_of entries) → AreFree goal.taken (places_of entries)
      → word ≡ words entries ++ rest → Fills Heads goals rest → Fills Heads (goal ∷ goals) word

-- whatever renaming the bindings allow turns one type into the other
abbrev pub AllTurn : Bindings → Ty → Ty → Type 0
AllTurn s t u = (r : Renaming) → Allows s r → renamed r t ≡ u

-- what words are looked for, by the relation of heads
abbrev pub Wanted : Type 1
Wanted = (Ty → Ty → Type 0) → List ℕ → Type 0

-- the words of the pairings of two lists
abbrev pub Pairing : List Coordinate → List Coordinate → Wanted
Pairing a b heads word = (p : PairTree) × Pairs heads a b p × (word ≡ word_of p)

-- the words that pair the goals
abbrev pub Filling : List Goal → Wanted
Filling goals heads word = Fills heads goals word

-- the words that pair the goals once they have given the first coordinate of the first goal this place
abbrev pub FillingAt : Goal → List Goal → ℕ → Wanted
FillingAt goal goals place heads word = Fills heads (goal ∷ goals) (place ∷ word)

-- no word is wanted under a renaming that the bindings allow
abbrev pub HasNone : Bindings → Wanted → Type 0
HasNone s wanted = (r : Renaming) → Allows s r → (word : List ℕ) → wanted (Turns r) word → ⊥

-- the word is wanted under all renamings that the bindings now allow, and is the least that is wanted under one that
-- they allowed before
pub record IsBest (s now : Bindings) (wanted : Wanted) (word : List ℕ) : Type 0 where
  pub matching : AreMatching now
  pub narrower : (r : Renaming) → Allows now r → Allows s r
  pub fills : wanted (AllTurn now) word
  pub least : (r : Renaming) → Allows s r → (v : List ℕ) → wanted (Turns r) v → IsNotAfter word v

-- what is left of a task
abbrev pub goal_of : Task → Goal
goal_of task = record { left = drop task.at task.first.now; others = task.second.now; taken = task.taken.items }

-- what is left of the tasks, the last first
abbrev pub goals_of : List Task → List Goal
goals_of tasks = map goal_of (reverse tasks)

-- the task has a mark for each place, and each place can be written
pub record IsSound (task : Task) : Type 0 where
  pub within : task.at ≤ length task.first.now
  pub marks : length task.taken.items ≡ length task.second.now
  pub few : nodes_of task.second.now < 2 ^ 32
