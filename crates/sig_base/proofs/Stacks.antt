-- The last values of a list, and those before them, where one more is pushed.
use Rattle.std.proofs.Common.{◌≡◌, ℕ, ◌+◌, ◌-◌, List, [], ◌∷◌, ◌++◌, length, take, drop, refl, ap, sym, ◌∙◌, arith, append-nil, inl, inr}
use Rattle.std.specs.Prelude.{◌⊎◌}
use Rattle.std.proofs.lemmas.List.{length-append, length-drop, take-append-drop, take-append-le, drop-append-le, drop_all}
use Rattle.std.proofs.Math.Seq.{take-length}
use Rattle.sig_base.specs.Stacks.{last_of, before_last}

module _ {A : Type 0} where
  pub last_of-none : (xs : List A) → last_of 0 xs ≡ []
  last_of-none xs = drop_all (length xs - 0) xs (omega arith)

  pub before_last-none : (xs : List A) → before_last 0 xs ≡ xs
  before_last-none xs =
      let all : length xs - 0 ≡ length xs = omega arith in
      ap (λ n. take n xs) all ∙ take-length xs

  fewer : (n : ℕ) (xs : List A) (x : A) → length (xs ++ x ∷ []) - (n + 1) ≡ length xs - n
  fewer n xs x = let len = length-append xs (x ∷ []) in omega (arith, len)

  pub last_of-push : (n : ℕ) (xs : List A) (x : A) → last_of (n + 1) (xs ++ x ∷ []) ≡ last_of n xs ++ x ∷ []
  last_of-push n xs x = ap (λ k. drop k (xs ++ x ∷ [])) (fewer n xs x) ∙ drop-append-le (length xs - n) xs (x ∷ []) (omega arith)

  pub before_last-push : (n : ℕ) (xs : List A) (x : A) → before_last (n + 1) (xs ++ x ∷ []) ≡ before_last n xs
  before_last-push n xs x = ap (λ k. take k (xs ++ x ∷ [])) (fewer n xs x) ∙ take-append-le (length xs - n) xs (x ∷ []) (omega arith)

  -- where there is none among the last, none is taken off
  pub before_last-all : (n : ℕ) (xs : List A) → last_of n xs ≡ [] → before_last n xs ≡ xs
  before_last-all n xs none = sym (append-nil (before_last n xs)) ∙ ap (λ ys. before_last n xs ++ ys) (sym none) ∙ take-append-drop (length xs - n) xs

  last_of-empty : (n : ℕ) (xs : List A) → xs ≡ [] → last_of n xs ≡ []
  last_of-empty n xs e = ap (last_of n) e ∙ drop_all (0 - n) [] (omega arith)

  pub none_among : (n : ℕ) (xs : List A) → (n ≡ 0) ⊎ (xs ≡ []) → last_of n xs ≡ []
  none_among n xs (inl e) = ap (λ n. last_of n xs) e ∙ last_of-none xs
  none_among n xs (inr e) = last_of-empty n xs e

  pub empty_among : (n : ℕ) (xs : List A) → (n ≡ 0 → ⊥) → last_of n xs ≡ [] → xs ≡ []
  empty_among n [] some e = refl
  empty_among n (x ∷ xs) some e =
      let dropped = length-drop (length (x ∷ xs) - n) (x ∷ xs) in
      let zero = ap length e in
      absurd (some (omega (arith, dropped, zero)))

  -- one more is pushed: the last n of it and all that are more are the same as n and one more
  module _ (n more : ℕ) (xs ys : List A) (x : A) (pushed : ys ≡ xs ++ x ∷ []) (same : length ys - more ≡ length ys - (n + 1)) where
    pub last_of-more : last_of more ys ≡ last_of n xs ++ x ∷ []
    last_of-more = ap (λ k. drop k ys) same ∙ ap (last_of (n + 1)) pushed ∙ last_of-push n xs x

    pub before_last-more : before_last more ys ≡ before_last n xs
    before_last-more = ap (λ k. take k ys) same ∙ ap (before_last (n + 1)) pushed ∙ before_last-push n xs x
