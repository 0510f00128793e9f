-- First places of values.
use Rattle.std.proofs.Common.{◌≡◌, ◌↔◌, ℕ, List, length, slice_get, sym, ap, ◌∙◌, subst, arith, inl, inr}
use Rattle.std.proofs.lemmas.Option.{same_Some, slice_get_within}
use Rattle.type_core.specs.declared.coordinate.Coordinate.{Coordinate}
use Rattle.type_intern.specs.Alike.{AreAlike, IsAlike}
use Rattle.type_intern.specs.Erasure.{as_is, erase}
use Rattle.type_intern.specs.Meanings.{IsCanonical, IsKey}
use Rattle.type_intern.specs.Numbering.{Grows, IsFirst}
use Rattle.type_intern.proofs.Alikeness.{alike_sym, alike_trans, are_sym, are_trans}
use Rattle.type_intern.proofs.Places.{get_within, order, stays}

-- the first places of what is related to x and to y are one exactly where x and y are related
firsts_decide : {T : Type 0} (R : T → T → Type 0) → ((x y : T) → R x y → R y x) → ((x y z : T) → R x y → R y z → R x z)
    → (values : List T) (x y : T) (m n : ℕ) → IsFirst (λ t. R t x) values m → IsFirst (λ t. R t y) values n
    → (m ≡ n) ↔ R x y
firsts_decide R symmetric transitive values x y m n p q = (
  λ e. transitive x q.value y (symmetric q.value x (subst (λ t. R t x)
      (same_Some p.value q.value (sym p.stands ∙ ap (slice_get values) e ∙ q.stands)) p.holds)) q.holds,
  λ r. omega (
    arith,
    p.least n q.value q.stands (transitive q.value y x q.holds (symmetric x y r)),
    q.least m p.value p.stands (transitive p.value x y p.holds r),
  ),
)

pub canonical_decides : (coords : List Coordinate) (c d : Coordinate) (m n : ℕ) → IsCanonical coords c m
    → IsCanonical coords d n → (m ≡ n) ↔ IsAlike as_is c d
canonical_decides = firsts_decide (IsAlike as_is) (λ c d a. alike_sym as_is a) (λ c d e a b. alike_trans as_is a b)

pub key_decides : (keys : List (List Coordinate)) (cs ds : List Coordinate) (m n : ℕ) → IsKey keys cs m
    → IsKey keys ds n → (m ≡ n) ↔ AreAlike erase cs ds
key_decides = firsts_decide (AreAlike erase) (λ cs ds a. are_sym erase a) (λ cs ds es a b. are_trans erase a b)

pub first_stays : {T : Type 0} (IsSuch : T → Type 0) (old new : List T) → Grows old new → (n : ℕ) → IsFirst IsSuch old n
    → IsFirst IsSuch new n
first_stays IsSuch old new g n p = record {
  value = p.value;
  stands = stays old new g n p.value p.stands;
  holds = p.holds;
  least = λ i t at such. elim (order i (length old)) [
    | inl l ↦
        let there = get_within old i l in
        let same : there.0 ≡ t = same_Some there.0 t (sym (stays old new g i there.0 there.1) ∙ at) in
        p.least i there.0 there.1 (subst IsSuch (sym same) such)
    | inr l ↦ omega (arith, slice_get_within old n p.value p.stands, l)
  ];
}
