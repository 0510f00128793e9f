-- Decimal digits, written from the last to the first.
use Rattle.std.proofs.Common.{◌≡◌, ℕ, zero, suc, ◌+◌, ◌-◌, ◌/◌, ◌%◌, ◌^◌, ◌<◌, ◌≤◌, List, [], ◌∷◌, ◌++◌, length, drop, slice_set, sym, ap, ◌∙◌, arith, append_assoc}
use Rattle.std.specs.Fmt.{decimal}
use Rattle.std.proofs.lemmas.Fmt.{decimal_digit, decimal_step}
use Rattle.std.proofs.lemmas.List.{drop-set}

-- the digit written before the others
written : (digits : List ℕ) (from digit : ℕ) → 1 ≤ from → from ≤ length digits → drop (from - 1) (slice_set digits (from - 1) digit) ≡ digit ∷ drop from digits
written digits from digit room within =
    let back : from - 1 + 1 ≡ from = omega arith in
    drop-set digits (from - 1) digit (omega arith) ∙ ap (λ n. digit ∷ drop n digits) back

-- one digit more
pub digit_before : (n rest from : ℕ) (digits : List ℕ) → 10 ≤ rest → rest < 2 ^ 64 → 1 ≤ from → from ≤ length digits → decimal n ≡ decimal rest ++ drop from digits
    → decimal n ≡ decimal (rest / 10) ++ drop (from - 1) (slice_set digits (from - 1) (48 + rest % 10))
digit_before n rest from digits large fits room within read =
    read ∙ ap (λ front. front ++ drop from digits) (decimal_step rest large fits)
    ∙ append_assoc (decimal (rest / 10)) ((48 + rest % 10) ∷ []) (drop from digits)
    ∙ ap (λ back. decimal (rest / 10) ++ back) (sym (written digits from (48 + rest % 10) room within))

-- the first digit
pub digit_first : (n rest from : ℕ) (digits : List ℕ) → rest < 10 → 1 ≤ from → from ≤ length digits → decimal n ≡ decimal rest ++ drop from digits
    → drop (from - 1) (slice_set digits (from - 1) (48 + rest)) ≡ decimal n
digit_first n rest from digits small room within read =
    written digits from (48 + rest) room within ∙ sym (read ∙ ap (λ front. front ++ drop from digits) (decimal_digit rest small))

-- a power of ten leaves room for one digit less
pub shorter : (rest from : ℕ) → 10 ≤ rest → 1 ≤ from → rest < 10 ^ from → (2 ≤ from) × (rest / 10 < 10 ^ (from - 1))
shorter rest zero large room small = absurd (omega arith)
shorter rest (suc zero) large room small = absurd (omega arith)
shorter rest (suc (suc from)) large room small =
    let back : suc (suc from) - 1 ≡ suc from = omega arith in
    (omega arith, rw back (omega arith))
