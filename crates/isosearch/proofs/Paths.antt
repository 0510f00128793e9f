-- Paths by their numbers.
use Rattle.std.proofs.Common.{◌≡◌, ◌≤◌, ℕ, zero, suc, List, [], ◌∷◌, length, slice_get, slice_index_or, refl, ap, arith}
use Rattle.std.specs.Prelude.{Some}

-- past the end the path has no bytes
pub path_past : (paths : List (List ℕ)) (place : ℕ) → length paths ≤ place → [] ≡ slice_index_or paths place []
path_past [] place past = refl
path_past (path ∷ paths) zero past = absurd (omega (arith, past))
path_past (path ∷ paths) (suc place) past = path_past paths place (omega (arith, past))

some_is : {A : Type 0} (x y : A) → Some x ≡ Some y → x ≡ y
some_is x y same = cc

-- of one path the first is all
pub first_alone : (paths : List (List ℕ)) (path : List ℕ) → length paths ≡ 1 → slice_get paths 0 ≡ Some path → paths ≡ path ∷ []
first_alone [] path one first = absurd (omega (arith, one))
first_alone (other ∷ []) path one first = ap (λ p. p ∷ []) (some_is other path first)
first_alone (other ∷ next ∷ paths) path one first = absurd (omega (arith, one))
