-- The last values of a list, and those before them.
use Rattle.std.specs.Prelude.{ℕ, ◌-◌, List, length, take, drop}

-- the last n of a list, or all where there are fewer
abbrev pub last_of : {A : Type 0} → ℕ → List A → List A
last_of n xs = drop (length xs - n) xs

-- those before the last n
abbrev pub before_last : {A : Type 0} → ℕ → List A → List A
before_last n xs = take (length xs - n) xs
