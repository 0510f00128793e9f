-- The bytes of words and numerals, by their tests.
use Rattle.std.proofs.Common.{◌≡◌, ◌≢◌, ◌↔◌, ℕ, ◌-◌, ◌≤◌, ◌&&◌, ◌||◌, ◌⊎◌, inl, inr, Bool, true, false, not, IsTrue, nat_eq, List, [], ◌∷◌, drop, get_or, length, refl, sym, ap, take, ◌∙◌, arith}
use Rattle.std.specs.Prelude.{codes}
use Rattle.std.specs.List.{All, AllByRecursion, Contains, list_all, list_any}
use Rattle.std.proofs.lemmas.Bool.{and_parts, or_cases, eqb-true, false≢true}
use Rattle.std.proofs.lemmas.Bool.Decides.{nat_tests}
use Rattle.std.proofs.lemmas.List.{take_rest}
use Rattle.std.proofs.lemmas.List.Sums.{AllPass-from_list_all, list_all-from_AllPass}
use Rattle.std.proofs.lemmas.List.Elements.{All-contains, All-from_recursion, Contains-append_right}
use Rattle.sig_base.specs.Identifiers.{IsAlphanumericByte, IsDigit, IsLetter, IsNumeral, IsSymbolicByte, OneThen, is_alphanumeric_byte, is_digit, is_letter, is_symbolic_byte}

both : (x y : Bool) → x ≡ true → y ≡ true → (x && y) ≡ true
both x y e f = rw (e, f) refl

-- ---- a byte, and the bytes behind it
one_then : (first rest : ℕ → Bool) (text : List ℕ) (r : Bool) → 1 ≤ length text → first (get_or text 0 0) ≡ true → r ≡ list_all rest (drop 1 text) → IsTrue r ↔ OneThen (λ b. IsTrue (first b)) (λ b. IsTrue (rest b)) text
one_then first rest [] r some h e = absurd (omega arith)
one_then first rest (b ∷ text) r some h e = ((λ t. (h, AllPass-from_list_all rest text (sym e ∙ t))), (λ t. e ∙ list_all-from_AllPass rest text t.1))

pub one_then_tests : (first rest : ℕ → Bool) (text : List ℕ) (r : Bool) → 1 ≤ length text → first (get_or text 0 0) ≡ true → r ≡ list_all rest (take (length text - 1) (drop 1 text)) → IsTrue r ↔ OneThen (λ b. IsTrue (first b)) (λ b. IsTrue (rest b)) text
one_then_tests first rest text r some h e = one_then first rest text r some h (e ∙ ap (list_all rest) (take_rest text 1))

-- ---- symbols
abbrev pub symbols : List ℕ
symbols = codes "!%&$#+-/:<=>?@\\~`^|*"

pub contained : (xs : List ℕ) (b : ℕ) → list_any (λ c. nat_eq c b) xs ≡ true → Contains xs b
contained [] b h = absurd (false≢true h)
contained (x ∷ xs) b h = elim (or_cases _ _ h) [
  | inl e ↦ (0, omega arith, eqb-true x b e)
  | inr e ↦ Contains-append_right (x ∷ []) xs b (contained xs b e)
]

-- what holds of each symbol
pub each_symbol : (P : ℕ → Type 0) → AllByRecursion P symbols → (b : ℕ) → IsSymbolicByte b → P b
unfolding is_symbolic_byte
each_symbol P all b h = All-contains P symbols b (All-from_recursion P symbols all) (contained symbols b h)

abbrev fails : (ℕ → Bool) → ℕ → Type 0
fails test b = test b ≡ false

pub no_symbol : (b : ℕ) → IsAlphanumericByte b → IsSymbolicByte b → ⊥
no_symbol b h k =
    false≢true (sym (each_symbol (fails is_alphanumeric_byte)
    (refl, (refl, (refl, (refl, (refl, (refl, (refl, (refl, (refl, (refl, (refl, (refl, (refl, (refl, (refl, (refl, (refl, (refl, (refl, (refl, tt)))))))))))))))))))) b k) ∙ h)

-- ---- no dot, and nothing outside of a text
pub alphanumeric_no_dot : (b : ℕ) → IsAlphanumericByte b → b ≢ 46
alphanumeric_no_dot b h e = false≢true (sym (ap is_alphanumeric_byte e) ∙ h)

pub symbol_no_dot : (b : ℕ) → IsSymbolicByte b → b ≢ 46
unfolding is_symbolic_byte
symbol_no_dot b h e = false≢true (sym (ap is_symbolic_byte e) ∙ h)

pub letter_alphanumeric : (b : ℕ) → IsLetter b → IsAlphanumericByte b
letter_alphanumeric b h = rw h refl

pub digit_alphanumeric : (b : ℕ) → IsDigit b → IsAlphanumericByte b
digit_alphanumeric b h = grind (arith, nat_tests)

-- ---- numerals
first_digit : (b : ℕ) → not (nat_eq b 48) ≡ true → is_digit b ≡ true → (49 ≤ b) × (b ≤ 57)
first_digit b h k = grind (arith, nat_tests)

some_digit : (b : ℕ) → 49 ≤ b → b ≤ 57 → (not (nat_eq b 48) && is_digit b) ≡ true
some_digit b h k = grind (arith, nat_tests)

pub numeral_word : (text : List ℕ) → IsNumeral text → OneThen (λ b. (49 ≤ b) × (b ≤ 57)) IsDigit text
numeral_word [] h = absurd (false≢true h)
numeral_word (b ∷ text) h =
    let p = and_parts (not (nat_eq b 48)) (list_all is_digit (b ∷ text)) h in
    let q = and_parts (is_digit b) (list_all is_digit text) p.1 in
    (first_digit b p.0 q.0, AllPass-from_list_all is_digit text q.1)

pub word_numeral : (text : List ℕ) → OneThen (λ b. (49 ≤ b) × (b ≤ 57)) IsDigit text → IsNumeral text
word_numeral [] h = absurd h
word_numeral (b ∷ text) h =
    let p = and_parts (not (nat_eq b 48)) (is_digit b) (some_digit b h.0.0 h.0.1) in
    both (not (nat_eq b 48)) (list_all is_digit (b ∷ text)) p.0 (both (is_digit b) (list_all is_digit text) p.1 (list_all-from_AllPass is_digit text h.1))
