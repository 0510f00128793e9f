-- Tables: values that are made of tops whose parts are numbers, each value under its number.
use Rattle.std.specs.Prelude.{◌≡◌, ℕ, List, [], ◌∷◌, ◌++◌, Some, length, slice_get}
use Rattle.type_intern.specs.Numbering.{StandsOnce}

-- `tree` gives the value with a top, where the parts are numbers among these values
module _ {N T : Type 0} (tree : List T → N → T) where
  -- the values of the first, and then those with these tops in turn
  unfoldable pub values_from : List T → List N → List T
  values_from values [] = values
  values_from values (n ∷ ns) = values_from (values ++ tree values n ∷ []) ns

  -- the values with these tops
  abbrev pub values_of : List N → List T
  values_of nodes = values_from [] nodes

  -- these values have these tops; each top fits among the values before it, and no value stands twice
  pub record IsTableOf (Fits : ℕ → N → Type 0) (nodes : List N) (values : List T) : Type 0 where
    pub long : length values ≡ length nodes
    pub reads : (i : ℕ) (n : N) → slice_get nodes i ≡ Some n → slice_get values i ≡ Some (tree values n)
    pub fits : (i : ℕ) (n : N) → slice_get nodes i ≡ Some n → Fits i n
    pub once : StandsOnce values
