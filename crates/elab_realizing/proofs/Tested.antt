-- Tests of lists that are made of tests of their elements, as loops go through them.
use Rattle.std.proofs.Common.{◌≡◌, ℕ, ◌+◌, ◌<◌, ◌&&◌, ◌||◌, Bool, true, false, List, [], ◌∷◌, ◌++◌, length, drop, get_or, map, refl, sym, ap, ◌∙◌}
use Rattle.type_core.specs.Lists.{all_true}
use Rattle.elab_types.proofs.Lists.{dropped}

module _ {A : Type 0} (test : List A → Bool) (xs : List A) (i : ℕ) (x d : A) (b whole : Bool) (within : i < length xs) (is : x ≡ get_or xs i d) (tested : b ≡ test (x ∷ [])) (so_far : test (drop i xs) ≡ whole) where
  -- ---- whether one of them passes
  any_from : ((ys : List A) → test (x ∷ ys) ≡ (test (x ∷ []) || test ys)) → (b || test (drop (i + 1) xs)) ≡ whole
  any_from any = ap (λ c. c || test (drop (i + 1) xs)) tested ∙ sym (any (drop (i + 1) xs)) ∙ sym (ap test (dropped xs i x d within is)) ∙ so_far

  pub any_passes : ((ys : List A) → test (x ∷ ys) ≡ (test (x ∷ []) || test ys)) → b ≡ true → true ≡ whole
  any_passes any e = sym (ap (λ c. c || test (drop (i + 1) xs)) e) ∙ any_from any

  pub any_goes_on : ((ys : List A) → test (x ∷ ys) ≡ (test (x ∷ []) || test ys)) → b ≡ false → test (drop (i + 1) xs) ≡ whole
  any_goes_on any e = sym (ap (λ c. c || test (drop (i + 1) xs)) e) ∙ any_from any

  -- ---- whether all of them pass
  all_from : ((ys : List A) → test (x ∷ ys) ≡ (test (x ∷ []) && test ys)) → (b && test (drop (i + 1) xs)) ≡ whole
  all_from all = ap (λ c. c && test (drop (i + 1) xs)) tested ∙ sym (all (drop (i + 1) xs)) ∙ sym (ap test (dropped xs i x d within is)) ∙ so_far

  pub all_fails : ((ys : List A) → test (x ∷ ys) ≡ (test (x ∷ []) && test ys)) → b ≡ false → false ≡ whole
  all_fails all e = sym (ap (λ c. c && test (drop (i + 1) xs)) e) ∙ all_from all

  pub all_goes_on : ((ys : List A) → test (x ∷ ys) ≡ (test (x ∷ []) && test ys)) → b ≡ true → test (drop (i + 1) xs) ≡ whole
  all_goes_on all e = sym (ap (λ c. c && test (drop (i + 1) xs)) e) ∙ all_from all

-- ---- the first of them apart
pub or_apart : (b c : Bool) → (b || c) ≡ ((b || false) || c)
or_apart true c = refl
or_apart false c = refl

and_assoc : (a b c : Bool) → (a && (b && c)) ≡ ((a && b) && c)
and_assoc true b c = refl
and_assoc false b c = refl

pub all_apart : {A : Type 0} (test : A → Bool) (xs ys : List A) → all_true (map test (xs ++ ys)) ≡ (all_true (map test (xs ++ [])) && all_true (map test ys))
all_apart test [] ys = refl
all_apart test (x ∷ xs) ys = ap (λ b. test x && b) (all_apart test xs ys) ∙ and_assoc (test x) (all_true (map test (xs ++ []))) (all_true (map test ys))
