-- Numerals, as std reads them.
use Rattle.std.proofs.Common.{◌≡◌, ℕ, ◌<◌, ◌^◌, true, false, not, ◌==◌, cond, IsTrue, nat_eq, List, [], ◌∷◌, drop, sym, ap, subst, arith}
use Rattle.std.specs.List.{list_all}
use Rattle.std.specs.Char.{digit_value}
use Rattle.std.specs.Str.Parse.{AllDigits, IsNumeral, digits_value, without_leading_plus}
use Rattle.std.proofs.lemmas.Bool.{and_parts, and_right, false≢true, false_from_ne_true, leb-true}
use Rattle.std.proofs.lemmas.Bool.Decides.{nat_tests}
use Rattle.sig_base.specs.Identifiers.{is_digit, is_numeral}
use Rattle.query_cli.specs.Commands.{is_count}

digit : (b : ℕ) → is_digit b ≡ true → digit_value b < 10
digit b h = grind (arith, nat_tests)

digits : (text : List ℕ) → list_all is_digit text ≡ true → AllDigits 10 text
digits [] h = tt
digits (b ∷ text) h = let p = and_parts (is_digit b) (list_all is_digit text) h in (digit b p.0, digits text p.1)

not_plus : (b : ℕ) → is_digit b ≡ true → (b == 43) ≡ false
not_plus b h = grind (arith, nat_tests)

-- a numeral has no sign
without_sign : (word : List ℕ) → IsTrue (is_numeral word) → without_leading_plus word ≡ word
without_sign [] h = absurd (false≢true h)
without_sign (b ∷ text) h =
    let p = and_parts (not (nat_eq b 48)) (list_all is_digit (b ∷ text)) h in
    let q = and_parts (is_digit b) (list_all is_digit text) p.1 in
    ap (λ t. drop (cond t 1 0) (b ∷ text)) (not_plus b q.0)

numeral : (word : List ℕ) → IsTrue (is_numeral word) → IsNumeral 10 word
numeral [] h = absurd (false≢true h)
numeral (b ∷ text) h = (omega arith, digits (b ∷ text) (and_parts (not (nat_eq b 48)) (list_all is_digit (b ∷ text)) h).1)

-- a numeral that isn't read is too large
pub unread : (word : List ℕ) → IsTrue (is_numeral word)
    → ¬ (IsNumeral 10 (without_leading_plus word) × (digits_value 10 (without_leading_plus word) < 2 ^ 32))
    → is_count word ≡ false
unread word h failed = and_right (is_numeral word) _ (false_from_ne_true _ (λ small.
    failed (subst (λ digits. IsNumeral 10 digits × (digits_value 10 digits < 2 ^ 32)) (sym (without_sign word h))
    (numeral word h, omega (arith, leb-true (digits_value 10 word) 20000 small)))))
