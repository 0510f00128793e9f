-- What is left to be matched, and the words that match it.
use Rattle.std.specs.Prelude.{◌≡◌, ℕ, ◌<◌, ◌^◌, List, [], ◌∷◌, ◌++◌, drop, length, map, reverse}
use Rattle.type_core.specs.declared.names.TypeName.{TypeName}
use Rattle.type_core.specs.declared.ty.NameId.{NameId}
use Rattle.type_core.specs.declared.ty.Ty.{Ty}
use Rattle.type_core.specs.declared.ty.Field.{Field}
use Rattle.type_core.specs.declared.ty.Ty.TheVariants as ty
use Rattle.type_core.specs.declared.ty.Ty.TheOpen.{Ty-F, Con, Rec}
use Rattle.type_core.specs.Size.{size_of}
use Rattle.iso_normal.specs.declared.factor.Factor.{Factor}
use Rattle.iso_normal.specs.Factors.{factors_of_arrow}
use Rattle.iso_normal.specs.WordOrder.{IsNotAfter}
use Rattle.linear_match.specs.declared.search.Dealing.{Dealing}
use Rattle.linear_match.specs.declared.search.Sorting.{Sorting}
use Rattle.linear_match.specs.declared.search.Task.{Task}
use Rattle.linear_match.specs.Meetings.{Meeting}
use Rattle.linear_match.specs.Splits.{Dealt, Sorted, SplitEach}
use Rattle.linear_match.specs.declared.bindings.Met.{Met}
use Rattle.linear_match.specs.search.Bindings.{AreGood, meetings_of}

-- what words are looked for, each with the meetings that it makes
abbrev pub Wanted : Type 1
Wanted = List ℕ → List Meeting → Type 0

-- no word is wanted whose meetings go on from these
abbrev pub HasNone : List TypeName → List Meeting → Wanted → Type 0
HasNone names ms wanted = (word : List ℕ) (ns : List Meeting) → wanted word ns → AreGood names (ms ++ ns) → ⊥

-- the word is wanted, its meetings lead from the ones to the others, and it is the least of those that are wanted and
-- whose meetings go on from these
pub record IsBest (names : List TypeName) (ms now : List Meeting) (words : Wanted) (word : List ℕ) : Type 0 where
  pub meetings : List Meeting
  pub wanted : words word meetings
  pub leads : now ≡ ms ++ meetings
  pub good : AreGood names now
  pub least : (v : List ℕ) (ns : List Meeting) → words v ns → AreGood names (ms ++ ns) → IsNotAfter word v

-- what was noted leads to what is, along the best word, which is added
pub record Finds (names : List TypeName) (old new : List Met) (before after : List ℕ) (wanted : Wanted) : Type 0 where
  pub word : List ℕ
  pub added : after ≡ before ++ word
  pub best : IsBest names (meetings_of old) (meetings_of new) wanted word

-- the patterns of the tasks, the last first
abbrev pub patterns_of : List Task → List Ty
patterns_of tasks = map (λ task. task.pattern.now) (reverse tasks)

-- the factors that are to be split along them
abbrev pub pieces_of : List Task → List (List Factor)
pieces_of tasks = map (λ task. task.factors) (reverse tasks)

-- the words that split each task's factors along its pattern, the last task's first
abbrev pub Matching : List Task → Wanted
Matching tasks word ms = SplitEach (patterns_of tasks) (pieces_of tasks) word ms

-- the same, with a task before the others, or two
abbrev pub MatchingFirst : Task → List Task → Wanted
MatchingFirst task tasks word ms = SplitEach (task.pattern.now ∷ patterns_of tasks) (task.factors ∷ pieces_of tasks)
    word ms

abbrev pub MatchingBoth : Task → Task → List Task → Wanted
MatchingBoth left right tasks word ms =
    SplitEach (left.pattern.now ∷ right.pattern.now ∷ patterns_of tasks)
    (left.factors ∷ right.factors ∷ pieces_of tasks) word ms

-- the same, with the components of a tuple and what was dealt to them
abbrev pub MatchingPieces : Dealing → List Task → Wanted
MatchingPieces dealing tasks word ms = SplitEach (dealing.parts.now ++ patterns_of tasks)
    (dealing.pieces.items ++ pieces_of tasks) word ms

-- the words of these that begin with the letter
abbrev pub Beginning : ℕ → Wanted → Wanted
Beginning letter wanted word ms = (rest : List ℕ) × (word ≡ letter ∷ rest) × wanted word ms

-- each list before the one at its place among those that follow
abbrev pub each_before : List (List Factor) → List (List Factor) → List (List Factor)
each_before [] later = []
each_before (piece ∷ pieces) [] = []
each_before (piece ∷ pieces) (last ∷ later) = (piece ++ last) ∷ each_before pieces later

-- the words that deal factors from number j on to components that have some already, and then match these and the
-- tasks
pub record DealsOn (ps : List Ty) (j : ℕ) (fs : List Factor) (pieces : List (List Factor)) (tasks : List Task)
    (word : List ℕ) (ms : List Meeting) : Type 0 where
  pub letters : List ℕ
  pub rest : List ℕ
  pub more : List (List Factor)
  pub is : word ≡ letters ++ rest
  pub dealt : Dealt (length ps) j letters fs more
  pub split : SplitEach (ps ++ patterns_of tasks) (each_before pieces more ++ pieces_of tasks) rest ms

-- what is left of a dealing whose factors before number `at` are dealt
abbrev pub DealingFrom : Dealing → ℕ → List Task → Wanted
DealingFrom dealing at tasks word ms = DealsOn dealing.parts.now at (drop at dealing.factors.now) dealing.pieces.items
    tasks word ms

-- dealings of the same factors to the same components, which have the same already
abbrev pub IsSameDealing : Dealing → Dealing → Type 0
IsSameDealing one other = (one.parts.now ≡ other.parts.now) × (one.factors.now ≡ other.factors.now) ×
    (one.pieces.items ≡ other.pieces.items)

-- the words that sort arguments of an arrow where some are sent and kept already, and then match both sides and the
-- tasks
pub record SortsOn (p q : Ty) (fs results sent kept : List Factor) (tasks : List Task) (word : List ℕ)
    (ms : List Meeting) : Type 0 where
  pub letters : List ℕ
  pub rest : List ℕ
  pub sends : List Factor
  pub keeps : List Factor
  pub is : word ≡ letters ++ rest
  pub sorted : Sorted letters fs sends keeps
  pub split : SplitEach (p ∷ q ∷ patterns_of tasks)
      ((sent ++ sends) ∷ factors_of_arrow (kept ++ keeps) results ∷ pieces_of tasks) rest ms

-- what is left of a sorting whose arguments before number `at` are sorted
abbrev pub SortingFrom : Sorting → ℕ → List Task → Wanted
SortingFrom sorting at tasks word ms =
    SortsOn sorting.from.now sorting.to.now (drop at sorting.arguments.now) sorting.results.now sorting.sent
    sorting.kept tasks word ms

-- the type has few enough nodes for letters to be numbered
abbrev pub IsSmallType : Ty → Type 0
IsSmallType t = size_of t < 2 ^ 32

abbrev pub IsSmall : Task → Type 0
IsSmall task = IsSmallType task.pattern.now

-- so it is with a tuple of all of them
abbrev pub AreSmall : List Ty → Type 0
AreSmall ts = IsSmallType (ty.Tup ts)

abbrev pub AreSmallSides : Sorting → Type 0
AreSmallSides sorting = IsSmallType sorting.from.now × IsSmallType sorting.to.now

-- an application or a record
pub data IsRigid : Ty-F Ty Field → Type 0 where
  application : (name : NameId) (arguments : List Ty) → IsRigid (Con name arguments)
  labelled : (fields : List Field) → IsRigid (Rec fields)
