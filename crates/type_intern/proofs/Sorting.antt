-- Sorted lists of numbers.
use Rattle.std.proofs.Common.{◌≡◌, ◌<◌, ◌≤◌, ℕ, suc, zero, cond, nat_lt, true, false, List, [], ◌∷◌, map, length, length-set, get_or, slice_set, refl, sym, ap, ap₂, ◌∙◌, subst, arith, inl, inr, ◌⊎◌}
use Rattle.std.proofs.lemmas.Bool.Decides.{nat_tests}
use Rattle.std.proofs.Math.Nat.{eq-or-lt_of_le}
use Rattle.type_intern.specs.declared.node.CoordId.{CoordId}
use Rattle.std.specs.List.{swap}
use Rattle.std.specs.Ordering.{nat_cmp}
use Rattle.std.specs.List.Sorted.{IsNonDecreasingBy, IsPermutation, IsSortedByKey}
use Rattle.std.proofs.lemmas.List.Sorted.{IsNonDecreasingBy-from_sort, IsPermutation-keeps, IsPermutation-map}
use Rattle.type_intern.specs.Alike.{Takes}
use Rattle.type_intern.specs.Numbering.{AllBelow}
use Rattle.type_intern.specs.Sorting.{insert_number, sorted}
use Rattle.type_intern.specs.Tops.{numbers_of}
use Rattle.type_intern.proofs.Places.{order}

is_less : (m n : ℕ) → m < n → nat_lt m n ≡ true
is_less m n l = grind (arith, nat_tests)

is_not_less : (m n : ℕ) → n ≤ m → nat_lt m n ≡ false
is_not_less m n l = grind (arith, nat_tests)

insert_past : (x y : ℕ) (ys : List ℕ) → y < x → insert_number x (y ∷ ys) ≡ y ∷ insert_number x ys
insert_past x y ys l = ap (λ b. cond b (y ∷ insert_number x ys) (x ∷ y ∷ ys)) (is_less y x l)

insert_here : (x y : ℕ) (ys : List ℕ) → x ≤ y → insert_number x (y ∷ ys) ≡ x ∷ y ∷ ys
insert_here x y ys l = ap (λ b. cond b (y ∷ insert_number x ys) (x ∷ y ∷ ys)) (is_not_less y x l)

lesser_first : (x y : ℕ) → x < y → (s : List ℕ)
    → insert_number x (insert_number y s) ≡ insert_number y (insert_number x s)
lesser_first x y l [] = insert_here x y [] (omega arith) ∙ sym (insert_past y x [] l)
lesser_first x y l (z ∷ s) = elim (order z y) [
  | inr p ↦
      ap (insert_number x) (insert_here y z s p) ∙ insert_here x y (z ∷ s) (omega arith)
      ∙ sym (ap (insert_number y) (insert_here x z s (omega arith)) ∙ insert_past y x (z ∷ s) l ∙ ap (λ t. x ∷ t)
      (insert_here y z s p))
  | inl p ↦ elim (order z x) [
    | inr q ↦
        ap (insert_number x) (insert_past y z s p) ∙ insert_here x z (insert_number y s) q
        ∙ sym (ap (insert_number y) (insert_here x z s q) ∙ insert_past y x (z ∷ s) l ∙ ap (λ t. x ∷ t)
        (insert_past y z s p))
    | inl q ↦
        ap (insert_number x) (insert_past y z s p) ∙ insert_past x z (insert_number y s) q
        ∙ ap (λ t. z ∷ t) (lesser_first x y l s)
        ∙ sym (ap (insert_number y) (insert_past x z s q) ∙ insert_past y z (insert_number x s) p)
  ]
]

insert_swap : (x y : ℕ) (s : List ℕ) → insert_number x (insert_number y s) ≡ insert_number y (insert_number x s)
insert_swap x y s = elim (order x y) [
  | inl l ↦ lesser_first x y l s
  | inr l ↦ elim (eq-or-lt_of_le l) [
    | inl e ↦ ap₂ (λ m n. insert_number m (insert_number n s)) (sym e) e
    | inr m ↦ sym (lesser_first y x m s)
  ]
]

-- the list without one of its numbers
pub sorted_takes : (x : ℕ) (xs rest : List ℕ) → Takes x xs rest → sorted xs ≡ insert_number x (sorted rest)
sorted_takes x [] rest t = absurd t
sorted_takes x (y ∷ xs) rest t = elim t [
  | inl p ↦ ap₂ (λ m s. insert_number m (sorted s)) (sym p.0) (sym p.1)
  | inr p ↦ ap (insert_number y) (sorted_takes x xs p.0 p.1) ∙ insert_swap y x (sorted p.0) ∙ ap
      (λ s. insert_number x (sorted s)) (sym p.2)
]

insert_takes : (x : ℕ) (s : List ℕ) → Takes x (insert_number x s) s
insert_takes x [] = inl (refl, refl)
insert_takes x (y ∷ s) = elim (order y x) [
  | inl l ↦ subst (λ t. Takes x t (y ∷ s)) (sym (insert_past x y s l)) (inr (s, insert_takes x s, refl))
  | inr l ↦ subst (λ t. Takes x t (y ∷ s)) (sym (insert_here x y s l)) (inl (refl, refl))
]

-- what stands in a list with one more number is that number, or stands in the list
takes_inserted : (x y : ℕ) (s rest : List ℕ) → Takes x (insert_number y s) rest
    → (x ≡ y) ⊎ ((left : List ℕ) × Takes x s left)
takes_inserted x y [] rest t = elim t [ inl p ↦ inl p.0 | inr p ↦ absurd p.1 ]
takes_inserted x y (z ∷ s) rest t = elim (order z y) [
  | inl l ↦
      let u : Takes x (z ∷ insert_number y s) rest = subst (λ v. Takes x v rest) (insert_past y z s l) t in
      elim u [
        | inl p ↦ inr (s, inl (p.0, refl))
        | inr p ↦ elim (takes_inserted x y s p.0 p.1) [
          | inl e ↦ inl e
          | inr q ↦ inr (z ∷ q.0, inr (q.0, q.1, refl))
        ]
      ]
  | inr l ↦
      let u : Takes x (y ∷ z ∷ s) rest = subst (λ v. Takes x v rest) (insert_here y z s l) t in
      elim u [ inl p ↦ inl p.0 | inr p ↦ inr (p.0, p.1) ]
]

sorted_has : (x : ℕ) (ys rest : List ℕ) → Takes x (sorted ys) rest → (left : List ℕ) × Takes x ys left
sorted_has x [] rest t = absurd t
sorted_has x (y ∷ ys) rest t = elim (takes_inserted x y (sorted ys) rest t) [
  | inl e ↦ (ys, inl (e, refl))
  | inr p ↦ let q = sorted_has x ys p.0 p.1 in (y ∷ q.0, inr (q.0, q.1, refl))
]

abbrev without : ℕ → List ℕ → List ℕ
without x [] = []
without x (y ∷ ys) = cond (nat_lt y x) (y ∷ without x ys) ys

without_inserted : (x : ℕ) (s : List ℕ) → without x (insert_number x s) ≡ s
without_inserted x [] = ap (λ b. cond b (x ∷ []) []) (is_not_less x x (omega arith))
without_inserted x (y ∷ s) = elim (order y x) [
  | inl l ↦ ap (without x) (insert_past x y s l) ∙ ap (λ b. cond b (y ∷ without x (insert_number x s))
      (insert_number x s)) (is_less y x l) ∙ ap (λ t. y ∷ t) (without_inserted x s)
  | inr l ↦ ap (without x) (insert_here x y s l) ∙ ap (λ b. cond b (x ∷ without x (y ∷ s)) (y ∷ s))
      (is_not_less x x (omega arith))
]

insert_cancels : (x : ℕ) (s t : List ℕ) → insert_number x s ≡ insert_number x t → s ≡ t
insert_cancels x s t e = sym (without_inserted x s) ∙ ap (without x) e ∙ without_inserted x t

-- of two lists with the same numbers the second has the first of the first, and the others are the same
pub sorted_first : (x : ℕ) (xs ys : List ℕ) → sorted (x ∷ xs) ≡ sorted ys
    → (rest : List ℕ) × Takes x ys rest × (sorted xs ≡ sorted rest)
sorted_first x xs ys e =
    let there = sorted_has x ys (sorted xs) (subst (λ s. Takes x s (sorted xs)) e (insert_takes x (sorted xs))) in
    (there.0, there.1, insert_cancels x (sorted xs) (sorted there.0) (e ∙ sorted_takes x ys there.0 there.1))

some_inserted : (x : ℕ) (s : List ℕ) → insert_number x s ≡ [] → ⊥
some_inserted x [] e = cc e
some_inserted x (y ∷ s) e = elim (order y x) [
  | inl l ↦ let f : y ∷ insert_number x s ≡ [] = sym (insert_past x y s l) ∙ e in cc f
  | inr l ↦ let f : x ∷ y ∷ s ≡ [] = sym (insert_here x y s l) ∙ e in cc f
]

pub sorted_none : (xs : List ℕ) → [] ≡ sorted xs → xs ≡ []
sorted_none [] e = refl
sorted_none (x ∷ xs) e = absurd (some_inserted x (sorted xs) (sym e))

-- the values of a list without one
pub takes_map : {A B : Type 0} (f : A → B) (x : A) (xs rest : List A) → Takes x xs rest
    → Takes (f x) (map f xs) (map f rest)
takes_map f x [] rest t = absurd t
takes_map f x (y ∷ xs) rest t = elim t [
  | inl p ↦ inl (ap f p.0, ap (map f) p.1)
  | inr p ↦ inr (map f p.0, takes_map f x xs p.0 p.1, ap (map f) p.2)
]

pub record Taken {A B : Type 0} (f : A → B) (y : B) (xs : List A) (rest : List B) : Type 0 where
  pub one : A
  pub left : List A
  pub takes : Takes one xs left
  pub is : f one ≡ y
  pub others : map f left ≡ rest

pub takes_from_map : {A B : Type 0} (f : A → B) (y : B) (xs : List A) (rest : List B) → Takes y (map f xs) rest
    → Taken f y xs rest
takes_from_map f y [] rest t = absurd t
takes_from_map f y (x ∷ xs) rest t = elim t [
  | inl p ↦ record { one = x; left = xs; takes = inl (refl, refl); is = sym p.0; others = sym p.1 }
  | inr p ↦
      let q = takes_from_map f y xs p.0 p.1 in
      record {
        one = q.one;
        left = x ∷ q.left;
        takes = inr (q.left, q.takes, refl);
        is = q.is;
        others = ap (λ s. f x ∷ s) q.others ∙ sym p.2;
      }
]

pub below_taken : (n : ℕ) (x : CoordId) (xs rest : List CoordId) → Takes x xs rest → AllBelow n (numbers_of xs)
    → (x.0 < n) × AllBelow n (numbers_of rest)
below_taken n x [] rest t h = absurd t
below_taken n x (y ∷ xs) rest t h = elim t [
  | inl p ↦ (subst (λ (z : CoordId). z.0 < n) (sym p.0) h.0, subst (λ s. AllBelow n (numbers_of s)) (sym p.1) h.1)
  | inr p ↦ let q = below_taken n x xs p.0 p.1 h.1 in (q.0, subst (λ s. AllBelow n (numbers_of s)) (sym p.2) (h.0, q.1))
]

-- sorting once is enough
sorted_inserted : (x : ℕ) (s : List ℕ) → sorted (insert_number x s) ≡ insert_number x (sorted s)
sorted_inserted x s = sorted_takes x (insert_number x s) s (insert_takes x s)

pub sorted_twice : (xs : List ℕ) → sorted (sorted xs) ≡ sorted xs
sorted_twice [] = refl
sorted_twice (x ∷ xs) = sorted_inserted x (sorted xs) ∙ ap (insert_number x) (sorted_twice xs)

-- what is made of each number, of sorted numbers
map_inserted : (f : ℕ → ℕ) (x : ℕ) (s : List ℕ)
    → sorted (map f (insert_number x s)) ≡ insert_number (f x) (sorted (map f s))
map_inserted f x s = sorted_takes (f x) (map f (insert_number x s)) (map f s)
    (takes_map f x (insert_number x s) s (insert_takes x s))

pub sorted_map : (f : ℕ → ℕ) (xs : List ℕ) → sorted (map f (sorted xs)) ≡ sorted (map f xs)
sorted_map f [] = refl
sorted_map f (x ∷ xs) = map_inserted f x (sorted xs) ∙ ap (insert_number (f x)) (sorted_map f xs)

-- a number in the place of another
set_inserted : (xs : List ℕ) (i y d : ℕ) → i < length xs
    → insert_number (get_or xs i d) (sorted (slice_set xs i y)) ≡ insert_number y (sorted xs)
set_inserted [] i y d l = absurd (omega arith)
set_inserted (x ∷ xs) zero y d l = insert_swap x y (sorted xs)
set_inserted (x ∷ xs) (suc i) y d l =
    insert_swap (get_or xs i d) x (sorted (slice_set xs i y)) ∙ ap (insert_number x)
    (set_inserted xs i y d (omega arith)) ∙ insert_swap x y (sorted xs)

get_set : (xs : List ℕ) (i j d : ℕ) → i < length xs → j < length xs
    → get_or (slice_set xs i (get_or xs j d)) j d ≡ get_or xs j d
get_set xs i j d l m = go xs i j (get_or xs j d) m refl
  where
    go : (xs : List ℕ) (i j y : ℕ) → j < length xs → get_or xs j d ≡ y → get_or (slice_set xs i y) j d ≡ y
    go [] i j y m e = absurd (omega arith)
    go (x ∷ xs) zero zero y m e = refl
    go (x ∷ xs) zero (suc j) y m e = e
    go (x ∷ xs) (suc i) zero y m e = e
    go (x ∷ xs) (suc i) (suc j) y m e = go xs i j y (omega arith) e

sorted_swap : (xs : List ℕ) (i j : ℕ) → i < length xs → j < length xs → sorted (swap xs i j) ≡ sorted xs
sorted_swap [] i j l m = refl
sorted_swap (x ∷ xs) i j l m =
    let a : ℕ = get_or (x ∷ xs) i x in
    let b : ℕ = get_or (x ∷ xs) j x in
    let once : List ℕ = slice_set (x ∷ xs) i b in
    insert_cancels b (sorted (slice_set once j a)) (sorted (x ∷ xs))
    (ap (λ n. insert_number n (sorted (slice_set once j a))) (sym (get_set (x ∷ xs) i j x l m))
    ∙ set_inserted once j a x (omega (arith, m, length-set (x ∷ xs) i b)) ∙ set_inserted (x ∷ xs) i b x l)

-- numbers in another order are the same when sorted
sorted_permuted : (xs ys : List ℕ) → IsPermutation xs ys → sorted ys ≡ sorted xs
sorted_permuted xs ys p = IsPermutation-keeps xs (λ l. sorted l ≡ sorted xs) refl
    (λ l i j m n e. sorted_swap l i j m n ∙ e) ys p

-- rising numbers are sorted
sorted_rising : {X : Type 0} (n : X → ℕ) (xs : List X) → IsNonDecreasingBy n xs → sorted (map n xs) ≡ map n xs
sorted_rising n [] up = refl
sorted_rising n (x ∷ []) up = refl
sorted_rising n (x ∷ y ∷ ys) up =
    ap (insert_number (n x)) (sorted_rising n (y ∷ ys) (λ i j d l m. up (suc i) (suc j) d (omega arith) (omega arith)))
    ∙ insert_here (n x) (n y) (map n ys) (up 0 1 x (omega arith) (omega arith))

-- what a sort by a number gives
pub sorted_by_number : {X : Type 0} (n : X → ℕ) (xs ys : List X) → IsPermutation xs ys → IsSortedByKey n nat_cmp ys
    → map n ys ≡ sorted (map n xs)
sorted_by_number n xs ys p up = sym (sorted_rising n ys (IsNonDecreasingBy-from_sort n ys up)) ∙ sorted_permuted
    (map n xs) (map n ys) (IsPermutation-map n xs ys p)

-- what holds of a number and of others holds of all once it is inserted
pub sorted_values : (P : ℕ → Type 0) (All : List ℕ → Type 0) → All []
    → ((m : ℕ) (ms : List ℕ) → P m → All ms → All (m ∷ ms)) → ((m : ℕ) (ms : List ℕ) → All (m ∷ ms) → P m × All ms)
    → (x : ℕ) (s : List ℕ) → P x → All s → All (insert_number x s)
sorted_values P All none cons split x [] p h = cons x [] p none
sorted_values P All none cons split x (y ∷ s) p h = elim (order y x) [
  | inl l ↦ subst All (sym (insert_past x y s l)) (cons y (insert_number x s) (split y s h).0
      (sorted_values P All none cons split x s p (split y s h).1))
  | inr l ↦ subst All (sym (insert_here x y s l)) (cons x (y ∷ s) p h)
]

pub below_sorted : (n : ℕ) (xs : List ℕ) → AllBelow n xs → AllBelow n (sorted xs)
below_sorted n [] h = tt
below_sorted n (x ∷ xs) h = sorted_values (λ m. m < n) (AllBelow n) tt (λ m ms p q. (p, q)) (λ m ms p. p) x (sorted xs)
    h.0 (below_sorted n xs h.1)
