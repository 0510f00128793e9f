-- Finding an element of a list.
use Rattle.std.specs.Prelude.{ℕ, suc, ◌&&◌, Bool, true, not, if◌then◌else◌, List, [], ◌∷◌, Option, Some, None}
use Rattle.std.specs.Option.{option_map, option_or}

-- the first that is given for an element
abbrev pub first_given : {A B : Type 0} → (A → Option B) → List A → Option B
first_given given [] = None
first_given given (x ∷ xs) = option_or (given x) (first_given given xs)

-- how many stand before the first that passes the test, if one does
abbrev pub place_of : {A : Type 0} → (A → Bool) → List A → Option ℕ
place_of test [] = None
place_of test (x ∷ xs) = if test x then Some 0 else option_map (λ place. suc place) (place_of test xs)

-- whether none passes the test
abbrev pub none_of : {A : Type 0} → (A → Bool) → List A → Bool
none_of test [] = true
none_of test (x ∷ xs) = not (test x) && none_of test xs
