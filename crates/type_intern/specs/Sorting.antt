-- Lists of numbers in their order.
use Rattle.std.specs.Prelude.{ℕ, cond, nat_lt, List, [], ◌∷◌}

-- the number before the first that isn't below it
abbrev pub insert_number : ℕ → List ℕ → List ℕ
insert_number x [] = x ∷ []
insert_number x (y ∷ ys) = cond (nat_lt y x) (y ∷ insert_number x ys) (x ∷ y ∷ ys)

-- the numbers in their order
abbrev pub sorted : List ℕ → List ℕ
sorted [] = []
sorted (x ∷ xs) = insert_number x (sorted xs)
