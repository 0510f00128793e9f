-- What stands at a place of one list after another.
use Rattle.std.proofs.Common.{◌≡◌, ℕ, zero, suc, ◌+◌, ◌<◌, List, [], ◌∷◌, ◌++◌, length, slice_get, refl, ap, arith}

pub get_appended : {A : Type 0} (xs ys : List A) (n : ℕ) → n < length xs → slice_get (xs ++ ys) n ≡ slice_get xs n
get_appended [] ys n l = absurd (omega (arith, l))
get_appended (x ∷ xs) ys zero l = refl
get_appended (x ∷ xs) ys (suc n) l = get_appended xs ys n (omega (arith, l))

pub later_at : {A : Type 0} (xs ys : List A) (n m : ℕ) → m ≡ length xs + n → slice_get (xs ++ ys) m ≡ slice_get ys n
later_at [] ys n m e = ap (slice_get ys) (omega (arith, e))
later_at (x ∷ xs) ys n zero e = absurd (omega (arith, e))
later_at (x ∷ xs) ys n (suc m) e = later_at xs ys n m (omega (arith, e))
