-- The order of words.
use Rattle.std.specs.Prelude.{ℕ, ◌<◌, List, [], ◌∷◌}

-- the first word isn't after the second in lexicographic order
pub data IsNotAfter : List ℕ → List ℕ → Type 0 where
  ends : (w : List ℕ) → IsNotAfter [] w
  less : {j k : ℕ} (v w : List ℕ) → j < k → IsNotAfter (j ∷ v) (k ∷ w)
  same : {v w : List ℕ} (k : ℕ) → IsNotAfter v w → IsNotAfter (k ∷ v) (k ∷ w)
