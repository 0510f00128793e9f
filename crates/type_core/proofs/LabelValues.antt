-- Numerals are ordered by their length, and those of one length by their digits.
use Rattle.std.proofs.Common.{◌≡◌, ℕ, suc, ◌+◌, ◌-◌, ◌*◌, ◌<◌, ◌≤◌, min, get_or, drop, drop-cons, true, IsTrue, List, [], ◌∷◌, map, length, refl, sym, ap, ◌∙◌, arith, inl, inr}
use Rattle.std.proofs.lemmas.Grind.{common_steps}
use Rattle.std.specs.declared.cmp.Ordering.TheVariants.{Less, Equal, Greater}
use Rattle.std.specs.Ordering.{nat_cmp, ordering_then}
use Rattle.std.proofs.lemmas.Cmp.{by_ranked, ranked}
use Rattle.std.proofs.Math.Nat.{eq-or-lt_of_le}
use Rattle.std.proofs.lemmas.Bool.Decides.{nat_tests}
use Rattle.std.specs.Cmp.Lexicographic.{slice_cmp}
use Rattle.std.specs.List.{list_all}
use Rattle.type_core.specs.declared.ty.Field.{Field}
use Rattle.sig_base.specs.Identifiers.{is_digit, is_numeral}
use Rattle.type_core.specs.Labels.{are_in_order, are_record_labels, value_after, value_of}

abbrev pub AreDigits : List ℕ → Type 0
AreDigits text = list_all is_digit text ≡ true

-- the first of them is a digit, and so are the others
digit_least : (b : ℕ) (text : List ℕ) → AreDigits (b ∷ text) → 48 ≤ b
digit_least b text h = grind (arith, common_steps)

digit_most : (b : ℕ) (text : List ℕ) → AreDigits (b ∷ text) → b ≤ 57
digit_most b text h = grind (arith, common_steps)

other_digits : (b : ℕ) (text : List ℕ) → AreDigits (b ∷ text) → AreDigits text
other_digits b text h = grind (arith, common_steps)

-- more digits make no number less
pub value_grows : (n : ℕ) (text : List ℕ) → n ≤ value_after n text
value_grows n [] = omega arith
value_grows n (b ∷ text) = omega (arith, value_grows (10 * n + (b - 48)) text)

-- the greater number stays the greater one after as many digits
pub value_greater : (m n : ℕ) (xs ys : List ℕ) → AreDigits xs → AreDigits ys → length xs ≡ length ys → m < n → value_after m xs < value_after n ys
value_greater m n [] [] p q e l = l
value_greater m n [] (y ∷ ys) p q e l = absurd (omega arith)
value_greater m n (x ∷ xs) [] p q e l = absurd (omega arith)
value_greater m n (x ∷ xs) (y ∷ ys) p q e l =
    value_greater (10 * m + (x - 48)) (10 * n + (y - 48)) xs ys (other_digits x xs p) (other_digits y ys q) (omega arith) (omega (arith, digit_most x xs p))

-- fewer digits make a lesser number of 0 than more digits of a number that isn't 0
pub value_longer : (n : ℕ) (xs ys : List ℕ) → AreDigits xs → AreDigits ys → length xs ≤ length ys → 0 < n → value_after 0 xs < value_after n ys
value_longer n [] [] p q e l = l
value_longer n (x ∷ xs) [] p q e l = absurd (omega arith)
value_longer n xs (y ∷ ys) p q e l = elim (eq-or-lt_of_le e) [
  | inl f ↦ value_greater 0 n xs (y ∷ ys) p q f l
  | inr f ↦ value_longer (10 * n + (y - 48)) xs ys p (other_digits y ys q) (omega arith) (omega arith)
]

is_less : (m n : ℕ) → m < n → nat_cmp m n ≡ Less
is_less m n l = grind (arith, nat_tests)

is_greater : (m n : ℕ) → n < m → nat_cmp m n ≡ Greater
is_greater m n l = grind (arith, nat_tests)

is_equal : (n : ℕ) → nat_cmp n n ≡ Equal
is_equal n = grind (arith, nat_tests)

-- as many digits are ordered as their numbers are
pub value_order : (n : ℕ) (xs ys : List ℕ) → AreDigits xs → AreDigits ys → length xs ≡ length ys → nat_cmp (value_after n xs) (value_after n ys) ≡ slice_cmp nat_cmp xs ys
value_order n [] [] p q e = is_equal n
value_order n [] (y ∷ ys) p q e = absurd (omega arith)
value_order n (x ∷ xs) [] p q e = absurd (omega arith)
value_order n (x ∷ xs) (y ∷ ys) p q e =
    let m : length xs ≡ length ys = omega arith in
    let h = digit_least x xs p in
    let k = digit_least y ys q in
    by_ranked (x < y) (x ≡ y) (y < x) (nat_cmp x y) (ranked x y (nat_cmp x y) refl)
    (λ o l. is_less _ _ (value_greater (10 * n + (x - 48)) (10 * n + (y - 48)) xs ys (other_digits x xs p) (other_digits y ys q) m (omega (arith, digit_most x xs p)))
    ∙ sym (ap (λ z. ordering_then z (slice_cmp nat_cmp xs ys)) o))
    (λ o l. ap (λ z. nat_cmp (value_after (10 * n + (x - 48)) xs) (value_after (10 * n + (z - 48)) ys)) (sym l)
    ∙ value_order (10 * n + (x - 48)) xs ys (other_digits x xs p) (other_digits y ys q) m
    ∙ sym (ap (λ z. ordering_then z (slice_cmp nat_cmp xs ys)) o))
    (λ o l. is_greater _ _ (value_greater (10 * n + (y - 48)) (10 * n + (x - 48)) ys xs (other_digits y ys q) (other_digits x xs p) (sym m) (omega (arith, digit_most y ys q)))
    ∙ sym (ap (λ z. ordering_then z (slice_cmp nat_cmp xs ys)) o))

-- a numeral is digits, and the first of them is no 0
numeral_digits : (text : List ℕ) → IsTrue (is_numeral text) → AreDigits text
numeral_digits [] h = refl
numeral_digits (b ∷ text) h = grind (arith, common_steps)

numeral_first : (b : ℕ) (text : List ℕ) → IsTrue (is_numeral (b ∷ text)) → 48 < b
numeral_first b text h = grind (arith, common_steps)

shorter : (xs ys : List ℕ) → IsTrue (is_numeral xs) → IsTrue (is_numeral ys) → length xs < length ys → value_of xs < value_of ys
shorter xs [] p q l = absurd (omega arith)
shorter xs (y ∷ ys) p q l = value_longer (10 * 0 + (y - 48)) xs ys (numeral_digits xs p) (other_digits y ys (numeral_digits (y ∷ ys) q)) (omega arith) (omega (arith, numeral_first y ys q))

pub shorter_less : (xs ys : List ℕ) → IsTrue (is_numeral xs) → IsTrue (is_numeral ys) → length xs < length ys → Less ≡ nat_cmp (value_of xs) (value_of ys)
shorter_less xs ys p q l = sym (is_less _ _ (shorter xs ys p q l))

pub longer_greater : (xs ys : List ℕ) → IsTrue (is_numeral xs) → IsTrue (is_numeral ys) → length ys < length xs → Greater ≡ nat_cmp (value_of xs) (value_of ys)
longer_greater xs ys p q l = sym (is_greater _ _ (shorter ys xs q p l))

pub same_length : (xs ys : List ℕ) → IsTrue (is_numeral xs) → IsTrue (is_numeral ys) → length xs ≤ length ys → length ys ≤ length xs → slice_cmp nat_cmp xs ys ≡ nat_cmp (value_of xs) (value_of ys)
same_length xs ys p q l m = sym (value_order 0 xs ys (numeral_digits xs p) (numeral_digits ys q) (omega arith))

-- a number that is cut off stays cut off after more digits
same_within : (m n : ℕ) (text : List ℕ) → n ≤ m → value_after (min n m) text ≡ value_after n text
same_within m n text l = ap (λ z. value_after z text) (omega arith)

pub cut_after : (m n : ℕ) (text : List ℕ) → min (value_after (min n m) text) m ≡ min (value_after n text) m
cut_after m n text = grind (arith, same_within m n text, value_grows (min n m) text, value_grows n text)

-- labels of which there is at most one
abbrev labels_of : List Field → List (List ℕ)
labels_of = map (λ field. field.label)

pub few_in_order : (fields : List Field) → length fields ≤ 1 → true ≡ are_in_order (labels_of fields)
few_in_order [] l = refl
few_in_order (field ∷ []) l = refl
few_in_order (field ∷ next ∷ fields) l = absurd (omega arith)

pub one_label : (fields : List Field) → 1 ≤ length fields → length fields < 2 → true ≡ are_record_labels (labels_of fields)
one_label [] l m = absurd (omega arith)
one_label (field ∷ []) l m = refl
one_label (field ∷ next ∷ fields) l m = absurd (omega arith)

-- one more digit
pub value_step : (m n next i : ℕ) (text : List ℕ) → i < length text → next ≡ min (min (n * 10) m + (get_or text i 0 - 48)) m → min (value_after next (drop (i + 1) text)) m ≡ min (value_after n (drop i text)) m
value_step m n next i text l e =
    let f : next ≡ min (10 * n + (get_or text i 0 - 48)) m = omega arith in
    let g : i + 1 ≡ suc i = omega arith in
    ap (λ z. min (value_after next (drop z text)) m) g
    ∙ ap (λ z. min (value_after z (drop (suc i) text)) m) f
    ∙ cut_after m (10 * n + (get_or text i 0 - 48)) (drop (suc i) text)
    ∙ sym (ap (λ z. min (value_after n z) m) (drop-cons text i 0 l))
