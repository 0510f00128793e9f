-- The order of labels is a total order.
use Rattle.std.proofs.Common.{◌≡◌, ℕ, ◌<◌, Bool, true, false, IsTrue, if◌then◌else◌, List, [], length, refl, sym, ap, ◌∙◌, subst, arith}
use Rattle.std.proofs.lemmas.Grind.{common_steps}
use Rattle.std.proofs.lemmas.Map.Text.{is_eq-slice_cmp}
use Rattle.std.proofs.lemmas.Slice.Eq.{bytes_eq-Decides}
use Rattle.std.specs.declared.cmp.Ordering.{Ordering}
use Rattle.std.specs.declared.cmp.Ordering.TheVariants.{Less, Equal, Greater}
use Rattle.std.specs.Ordering.{is_eq, nat_cmp, on, ordering_then, then_cmp}
use Rattle.std.specs.Cmp.{IsTotalOrder}
use Rattle.std.specs.Cmp.Lexicographic.{slice_cmp}
use Rattle.std.proofs.lemmas.Cmp.{by_ranked, ranked, nat_cmp_total, nat_list_cmp_total, on_total, then_total}
use Rattle.sig_base.specs.Identifiers.{is_numeral}
use Rattle.type_core.specs.Labels.{label_order, value_of}
use Rattle.type_core.proofs.LabelValues.{longer_greater, same_length, shorter_less}

-- three keys of a label: whether it is a numeral, its value if it is one, and its bytes if it isn't
abbrev kind : List ℕ → ℕ
kind text = if is_numeral text then 0 else 1

abbrev number : List ℕ → ℕ
number text = if is_numeral text then value_of text else 0

abbrev other : List ℕ → List ℕ
other text = if is_numeral text then [] else text

abbrev by_keys : List ℕ → List ℕ → Ordering
by_keys = then_cmp (on kind nat_cmp) (then_cmp (on number nat_cmp) (on other (slice_cmp nat_cmp)))

then_nothing : (o : Ordering) → o ≡ ordering_then o Equal
then_nothing Less = refl
then_nothing Equal = refl
then_nothing Greater = refl

keys : (p q : Bool) (m n : ℕ) (a b : List ℕ) → (if p then (if q then nat_cmp m n else Less) else (if q then Greater else slice_cmp nat_cmp a b))
    ≡ ordering_then (nat_cmp (if p then 0 else 1) (if q then 0 else 1)) (ordering_then (nat_cmp (if p then m else 0) (if q then n else 0)) (slice_cmp nat_cmp (if p then [] else a) (if q then [] else b)))
keys true true m n a b = then_nothing (nat_cmp m n)
keys true false m n a b = refl
keys false true m n a b = refl
keys false false m n a b = refl

order_by_keys : (a b : List ℕ) → label_order a b ≡ by_keys a b
unfolding label_order
order_by_keys a b = keys (is_numeral a) (is_numeral b) (value_of a) (value_of b) a b

pub label_order_total : IsTotalOrder label_order
label_order_total = let e : label_order ≡ by_keys = λ i a b. order_by_keys a b i in
    subst IsTotalOrder (sym e) (then_total (on_total kind nat_cmp_total) (then_total (on_total number nat_cmp_total) (on_total other nat_list_cmp_total)))

-- labels that are equal in the order are one label
same_bytes : (a b : List ℕ) → slice_cmp nat_cmp a b ≡ Equal → a ≡ b
same_bytes a b e = (bytes_eq-Decides a b).0 (sym (is_eq-slice_cmp a b) ∙ ap is_eq e)

is_true : (b : Bool) → b ≡ true → IsTrue b
is_true b e = grind (arith, common_steps)

unlike_less : {A : Type 0} → Less ≡ Equal → A
unlike_less f = cc

unlike_greater : {A : Type 0} → Greater ≡ Equal → A
unlike_greater f = cc

same_numerals : (a b : List ℕ) → IsTrue (is_numeral a) → IsTrue (is_numeral b) → nat_cmp (value_of a) (value_of b) ≡ Equal → a ≡ b
same_numerals a b p q e =
    by_ranked (length a < length b) (length a ≡ length b) (length b < length a) (nat_cmp (length a) (length b)) (ranked (length a) (length b) _ refl)
    (λ o l. unlike_less (shorter_less a b p q l ∙ e))
    (λ o l. same_bytes a b (same_length a b p q (omega arith) (omega arith) ∙ e))
    (λ o l. unlike_greater (longer_greater a b p q l ∙ e))

by_tests : (a b : List ℕ) (p q : Bool) → is_numeral a ≡ p → is_numeral b ≡ q → (if p then (if q then nat_cmp (value_of a) (value_of b) else Less) else (if q then Greater else slice_cmp nat_cmp a b)) ≡ Equal → a ≡ b
by_tests a b true true f g e = same_numerals a b (is_true _ f) (is_true _ g) e
by_tests a b true false f g e = unlike_less e
by_tests a b false true f g e = unlike_greater e
by_tests a b false false f g e = same_bytes a b e

pub equal_labels : (a b : List ℕ) → label_order a b ≡ Equal → a ≡ b
unfolding label_order
equal_labels a b e = by_tests a b (is_numeral a) (is_numeral b) refl refl e
