-- Places that are looked for from the front of a list on.
use Rattle.std.proofs.Common.{◌≡◌, ℕ, zero, suc, ◌+◌, Bool, true, false, if◌then◌else◌, List, [], ◌∷◌, ◌++◌, drop, slice_get, Option, Some, None, refl, ap, ◌∙◌}
use Rattle.std.specs.Option.{option_map}
use Rattle.elab_types.specs.Finding.{place_of}

-- so many further on
abbrev pub further_on : ℕ → Option ℕ → Option ℕ
further_on i place = option_map (λ p. i + p) place

module _ {A : Type 0} (test : A → Bool) (xs : List A) where
  -- what the search has come to: none of the first i is the one
  abbrev pub IsSearched : ℕ → Type 0
  IsSearched i = place_of test xs ≡ further_on i (place_of test (drop i xs))

-- what stands at the place that is found
later : {A : Type 0} (xs : List A) (place : Option ℕ) (n : ℕ) (P : A → Type 0) → option_map (λ p. suc p) place ≡ Some n → ((m : ℕ) → place ≡ Some m → (x : A) × (slice_get xs m ≡ Some x) × P x)
    → (y : A) → (x : A) × (slice_get (y ∷ xs) n ≡ Some x) × P x
later xs None n P e ih y = cc
later xs (Some m) n P e ih y =
    let found = ih m refl in
    let same : n ≡ suc m = cc in
    (found.0, ap (slice_get (y ∷ xs)) same ∙ found.1, found.2)

pub place_found : {A : Type 0} (test : A → Bool) (xs : List A) (n : ℕ) → place_of test xs ≡ Some n → (x : A) × (slice_get xs n ≡ Some x) × (test x ≡ true)
place_found test [] n e = cc
place_found {A = A} test (y ∷ ys) n e = by_case (λ m f. place_found test ys m f) (test y) refl e
  where
    by_case : ((m : ℕ) → place_of test ys ≡ Some m → (x : A) × (slice_get ys m ≡ Some x) × (test x ≡ true)) → (b : Bool) → test y ≡ b
        → (if b then Some 0 else option_map (λ p. suc p) (place_of test ys)) ≡ Some n → (x : A) × (slice_get (y ∷ ys) n ≡ Some x) × (test x ≡ true)
    by_case ih true is h = let same : n ≡ 0 = cc in (y, ap (slice_get (y ∷ ys)) same, is)
    by_case ih false is h = later ys (place_of test ys) n (λ x. test x ≡ true) h ih y

-- what stands in the front of a list stands in the whole
pub in_front : {A : Type 0} (xs ys : List A) (n : ℕ) (x : A) → slice_get xs n ≡ Some x → slice_get (xs ++ ys) n ≡ Some x
in_front [] ys n x e = cc
in_front (z ∷ xs) ys zero x e = e
in_front (z ∷ xs) ys (suc n) x e = in_front xs ys n x e
