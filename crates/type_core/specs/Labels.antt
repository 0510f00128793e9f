-- The labels of records, and their order.
use Rattle.std.specs.Prelude.{ℕ, ◌+◌, ◌-◌, ◌*◌, ◌&&◌, Bool, true, false, not, if◌then◌else◌, List, [], ◌∷◌, nat_eq}
use Rattle.std.specs.declared.cmp.Ordering.{Ordering}
use Rattle.std.specs.declared.cmp.Ordering.TheVariants.{Less, Greater}
use Rattle.std.specs.Ordering.{nat_cmp, is_lt}
use Rattle.std.specs.Cmp.Lexicographic.{slice_cmp}
use Rattle.sig_base.specs.Identifiers.{is_numeral}

-- the number that more digits make of a number: each makes it ten times as great and is added
abbrev pub value_after : ℕ → List ℕ → ℕ
value_after n [] = n
value_after n (b ∷ text) = value_after (10 * n + (b - 48)) text

-- the number of which these are the decimal digits
abbrev pub value_of : List ℕ → ℕ
value_of text = value_after 0 text

-- numerals come first, by value; then the others, by bytes
unfoldable pub label_order : List ℕ → List ℕ → Ordering
label_order a b =
    if is_numeral a
    then (if is_numeral b then nat_cmp (value_of a) (value_of b) else Less)
    else (if is_numeral b then Greater else slice_cmp nat_cmp a b)

-- whether each label comes before the next; so they are distinct and in order
abbrev pub are_in_order : List (List ℕ) → Bool
are_in_order [] = true
are_in_order (a ∷ []) = true
are_in_order (a ∷ b ∷ labels) = is_lt (label_order a b) && are_in_order (b ∷ labels)

-- whether the text is the numeral of n
abbrev pub is_numeral_of : ℕ → List ℕ → Bool
is_numeral_of n text = is_numeral text && nat_eq (value_of text) n

-- whether the labels are the numerals of n + 1, n + 2 and so on
abbrev pub count_on_from : ℕ → List (List ℕ) → Bool
count_on_from n [] = true
count_on_from n (a ∷ labels) = is_numeral_of (n + 1) a && count_on_from (n + 1) labels

-- whether the labels are those of a tuple: exactly 1 to n, with n at least 2
abbrev pub are_tuple_labels : List (List ℕ) → Bool
are_tuple_labels [] = false
are_tuple_labels (a ∷ []) = false
are_tuple_labels (a ∷ b ∷ labels) = count_on_from 0 (a ∷ b ∷ labels)

-- whether a record may have these labels: there is one, they are distinct and in order, and not those of a tuple
abbrev pub are_record_labels : List (List ℕ) → Bool
are_record_labels [] = false
are_record_labels (a ∷ labels) = are_in_order (a ∷ labels) && not (are_tuple_labels (a ∷ labels))
