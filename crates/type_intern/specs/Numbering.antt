-- Lists whose places are numbers.
use Rattle.std.specs.Prelude.{◌≡◌, ◌<◌, ◌≤◌, ℕ, List, [], ◌∷◌, ◌++◌, Some, slice_get}

-- each number is below n
abbrev pub AllBelow : ℕ → List ℕ → Type 0
AllBelow n [] = Unit {0}
AllBelow n (k ∷ ks) = (k < n) × AllBelow n ks

-- no value stands at two places
abbrev pub StandsOnce : {T : Type 0} → List T → Type 0
StandsOnce {T} values = (i j : ℕ) (t : T) → slice_get values i ≡ Some t → slice_get values j ≡ Some t → i ≡ j

-- the second list is the first and then others, so that each place of the first keeps its value
pub record Grows {T : Type 0} (old new : List T) : Type 0 where
  pub more : List T
  pub is : new ≡ old ++ more

-- n is the first place at which a value is such
pub record IsFirst {T : Type 0} (IsSuch : T → Type 0) (values : List T) (n : ℕ) : Type 0 where
  pub value : T
  pub stands : slice_get values n ≡ Some value
  pub holds : IsSuch value
  pub least : (i : ℕ) (t : T) → slice_get values i ≡ Some t → IsSuch t → n ≤ i
