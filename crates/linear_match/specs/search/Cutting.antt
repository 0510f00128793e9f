-- What can't succeed, and so isn't tried.
use Rattle.std.specs.Prelude.{◌≡◌, ℕ, ◌<◌, ◌≤◌, ◌+◌, ◌%◌, ◌⊎◌, Bool, true, List, ◌++◌, length, Some, slice_get}
use Rattle.type_core.specs.declared.names.TypeName.{TypeName}
use Rattle.type_core.specs.declared.ty.Ty.{Ty}
use Rattle.type_core.specs.declared.ty.VarId.{VarId}
use Rattle.type_core.specs.declared.ty.Ty.TheVariants as ty
use Rattle.type_core.specs.declared.ty.Ty.TheViews.{out-Ty}
use Rattle.iso_normal.specs.declared.factor.Factor.{Factor}
use Rattle.iso_normal.specs.declared.factor.Factor.TheViews.{out-Factor}
use Rattle.iso_normal.specs.Agreement.{AreAlike}
use Rattle.iso_normal.specs.Factors.{factors_of_arrow}
use Rattle.linear_match.specs.declared.search.Dealing.{Dealing}
use Rattle.linear_match.specs.Meetings.{Meeting}
use Rattle.linear_match.specs.Splits.{Splits}
use Rattle.linear_match.specs.search.Tasks.{Beginning, HasNone, Wanted}

-- the pattern splits no list but those of one factor
abbrev pub TakesOne : Ty → Type 0
TakesOne p = (fs : List Factor) (word : List ℕ) (ms : List Meeting) → Splits (out-Ty p) fs word ms → length fs ≡ 1

-- the pattern splits no list that begins with these factors
abbrev pub IsTakenByNone : Ty → List Factor → Type 0
IsTakenByNone p held = (more : List Factor) (word : List ℕ) (ms : List Meeting) → Splits (out-Ty p) (held ++ more) word ms
    → ⊥

-- the pattern splits no arrow to these results, nor these alone
abbrev pub IsEndedByNone : Ty → List Factor → Type 0
IsEndedByNone p results = (arguments : List Factor) (word : List ℕ) (ms : List Meeting)
    → Splits (out-Ty p) (factors_of_arrow arguments results) word ms → ⊥

-- no word is wanted that begins with a letter below k
abbrev pub NoneBefore : List TypeName → List Meeting → Wanted → ℕ → Type 0
NoneBefore names ms wanted k = (j : ℕ) → j < k → HasNone names ms (Beginning j wanted)

-- no word is wanted that begins with a letter that has a mark
abbrev pub NoneMarked : List TypeName → List Meeting → Wanted → List Bool → Type 0
NoneMarked names ms wanted marks = (l : ℕ) → slice_get marks l ≡ Some true → HasNone names ms (Beginning l wanted)

-- a factor gets by letter l the place that the one before gets by a letter below k, or by one that has a mark
abbrev pub WasInVain : List Bool → ℕ → ℕ → Type 0
WasInVain marks k l = ((l + 1) % length marks < k) ⊎ (slice_get marks ((l + 1) % length marks) ≡ Some true)

-- marks for the letters of factor number at + 1, where it is the same as the one before: for those by which it gets a
-- place that the one before had in vain
abbrev pub ArePassedOn : List Factor → ℕ → ℕ → List Bool → List Bool → Type 0
ArePassedOn fs at k marks next = (l : ℕ) → slice_get next l ≡ Some true
    → (slice_get fs (at + 1) ≡ slice_get fs at) × WasInVain marks k l

-- no factor of `gs` from number k on is like factor number `at` of `fs`
abbrev pub IsLikeNone : List Factor → ℕ → List Factor → ℕ → Type 0
IsLikeNone fs at gs k = (j : ℕ) (f g : Factor) → slice_get fs at ≡ Some f → slice_get gs j ≡ Some g → k ≤ j
    → AreAlike (out-Factor f) (out-Factor g) → ⊥

-- the component at the place is a variable, and so is another, which neither has a factor like number `at`, nor is one
-- left that is like it
pub record IsLackingPartner (dealing : Dealing) (at place : ℕ) : Type 0 where
  pub variable : VarId
  pub stands : slice_get dealing.parts.now place ≡ Some (ty.Var variable)
  pub other : VarId
  pub there : ℕ
  pub apart : there ≡ place → ⊥
  pub also : slice_get dealing.parts.now there ≡ Some (ty.Var other)
  pub same : other.n ≡ variable.n
  pub piece : List Factor
  pub has : slice_get dealing.pieces.items there ≡ Some piece
  pub unlike : IsLikeNone dealing.factors.now at piece 0
  pub none_left : IsLikeNone dealing.factors.now at dealing.factors.now (at + 1)
