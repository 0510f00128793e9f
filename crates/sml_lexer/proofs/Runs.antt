-- Words of a text, by their places.
use Rattle.std.proofs.Common.{◌≡◌, ℕ, suc, ◌+◌, ◌-◌, ◌<◌, ◌≤◌, ◌⊎◌, inl, inr, List, [], ◌∷◌, length, slice_index, refl, subst, arith}
use Rattle.std.specs.List.{All, between}
use Rattle.std.proofs.lemmas.Bool.{cases_lt}
use Rattle.std.proofs.lemmas.List.{drop_more}
use Rattle.std.proofs.lemmas.List.Edits.{length-between, get_or-between}
use Rattle.std.proofs.lemmas.List.Elements.{All-get_or, All-from_get_or}
use Rattle.sig_base.specs.Identifiers.{OneThen}

-- from `at` to `end` there is a byte of the first sort, and then bytes of the second
pub record Led (first rest : ℕ → Type 0) (bytes : List ℕ) (at end : ℕ) : Type 0 where
  pub begins : at < end
  pub head : first (slice_index bytes at)
  pub tail : (i : ℕ) → at + 1 ≤ i → i < end → rest (slice_index bytes i)

pub between_cons : (bytes : List ℕ) (at end : ℕ) → at < end → at < length bytes → between at end bytes ≡ slice_index bytes at ∷ between (at + 1) end bytes
between_cons bytes at end order fits =
    let e : end - at ≡ suc (end - (at + 1)) = omega arith in
    rw (drop_more bytes at 0 fits, e) refl

pub between-nil : (bytes : List ℕ) (at end : ℕ) → end ≤ at → between at end bytes ≡ []
between-nil bytes at end order =
    let e : end - at ≡ 0 = omega arith in
    rw e refl

module _ (first rest : ℕ → Type 0) (bytes : List ℕ) (at end : ℕ) (within : end ≤ length bytes) where
  pub text_led : Led first rest bytes at end → OneThen first rest (between at end bytes)
  text_led led =
      let begins : at < end = led.begins in
      let fits : at < length bytes = omega arith in
      let size : length (between (at + 1) end bytes) ≡ end - (at + 1) = length-between bytes (at + 1) end within in
      let all : All rest (between (at + 1) end bytes) =
      All-from_get_or rest (between (at + 1) end bytes) 0 (λ i below.
      let below' : i < end - (at + 1) = omega (arith, below, size) in
      let here : at + 1 + i < end = omega arith in
      rw (get_or-between bytes (at + 1) end i 0 here) (led.tail (at + 1 + i) (omega arith) here)) in
      rw (between_cons bytes at end begins fits) (led.head, all)

  led_cases : (at < end) ⊎ (end ≤ at) → OneThen first rest (between at end bytes) → Led first rest bytes at end
  led_cases (inr past) word = absurd (subst (OneThen first rest) (between-nil bytes at end past) word)
  led_cases (inl begins) word =
      let fits : at < length bytes = omega arith in
      let parts : first (slice_index bytes at) × All rest (between (at + 1) end bytes) = subst (OneThen first rest) (between_cons bytes at end begins fits) word in
      let size : length (between (at + 1) end bytes) ≡ end - (at + 1) = length-between bytes (at + 1) end within in
      record {
        begins = begins;
        head = parts.0;
        tail = λ i low high.
            let below : i - (at + 1) < length (between (at + 1) end bytes) = omega (arith, size) in
            let here : at + 1 + (i - (at + 1)) < end = omega arith in
            let same : at + 1 + (i - (at + 1)) ≡ i = omega arith in
            let found = All-get_or rest (between (at + 1) end bytes) (i - (at + 1)) 0 below parts.1 in
            let moved : rest (slice_index bytes (at + 1 + (i - (at + 1)))) = subst rest (get_or-between bytes (at + 1) end (i - (at + 1)) 0 here) found in
            subst (λ (k : ℕ). rest (slice_index bytes k)) same moved;
      }

  pub led_text : OneThen first rest (between at end bytes) → Led first rest bytes at end
  led_text word = led_cases (cases_lt at end) word
