-- Places of lists that grow.
use Rattle.std.proofs.Common.{◌≡◌, ◌<◌, ◌≤◌, ℕ, suc, zero, List, [], ◌∷◌, ◌++◌, Some, length, slice_get, get_or, refl, sym, ap, ◌∙◌, subst, arith, inl, inr, ◌⊎◌, append-nil, append_assoc, length-append}
use Rattle.std.proofs.lemmas.Option.{none-some, same_Some}
use Rattle.std.proofs.lemmas.List.{map-append}
use Rattle.std.proofs.lemmas.Bool.Decides.{nat_tests}
use Rattle.std.proofs.Common.{Bool, true, false, nat_lt, map}
use Rattle.type_intern.specs.Numbering.{AllBelow, Grows, StandsOnce}

pub order : (m n : ℕ) → (m < n) ⊎ (n ≤ m)
order m n = by (nat_lt m n) refl
  where
    by : (b : Bool) → nat_lt m n ≡ b → (m < n) ⊎ (n ≤ m)
    by true e = inl (grind (arith, nat_tests))
    by false e = inr (grind (arith, nat_tests))

pub get_append : {A : Type 0} (xs ys : List A) (i : ℕ) (x : A) → slice_get xs i ≡ Some x
    → slice_get (xs ++ ys) i ≡ Some x
get_append [] ys i x e = absurd (none-some x e)
get_append (y ∷ xs) ys zero x e = e
get_append (y ∷ xs) ys (suc i) x e = get_append xs ys i x e

pub get_last : {A : Type 0} (xs : List A) (x : A) → slice_get (xs ++ x ∷ []) (length xs) ≡ Some x
get_last [] x = refl
get_last (y ∷ xs) x = get_last xs x

-- a value of a list with one more is a value of the list, or the last
pub get_push : {A : Type 0} (xs : List A) (x : A) (i : ℕ) (y : A) → slice_get (xs ++ x ∷ []) i ≡ Some y
    → (slice_get xs i ≡ Some y) ⊎ ((i ≡ length xs) × (x ≡ y))
get_push [] x zero y e = inr (refl, same_Some _ _ e)
get_push [] x (suc i) y e = absurd (none-some y e)
get_push (z ∷ xs) x zero y e = inl e
get_push (z ∷ xs) x (suc i) y e = elim (get_push xs x i y e) [ inl p ↦ inl p | inr p ↦ inr (ap suc p.0, p.1) ]

pub get_within : {A : Type 0} (xs : List A) (i : ℕ) → i < length xs → (x : A) × (slice_get xs i ≡ Some x)
get_within [] i l = absurd (omega arith)
get_within (x ∷ xs) zero l = (x, refl)
get_within (x ∷ xs) (suc i) l = get_within xs i (omega arith)

pub get_map : {A B : Type 0} (f : A → B) (xs : List A) (i : ℕ) (x : A) → slice_get xs i ≡ Some x
    → slice_get (map f xs) i ≡ Some (f x)
get_map f [] i x e = absurd (none-some x e)
get_map f (y ∷ xs) zero x e = ap (λ z. Some (f z)) (same_Some _ _ e)
get_map f (y ∷ xs) (suc i) x e = get_map f xs i x e

-- a value among those of f is that of some value
pub get_from_map : {A B : Type 0} (f : A → B) (xs : List A) (i : ℕ) (y : B) → slice_get (map f xs) i ≡ Some y
    → (x : A) × (slice_get xs i ≡ Some x) × (f x ≡ y)
get_from_map f [] i y e = absurd (none-some y e)
get_from_map f (x ∷ xs) zero y e = (x, refl, same_Some _ _ e)
get_from_map f (x ∷ xs) (suc i) y e = get_from_map f xs i y e

pub map_push : {A B : Type 0} (f : A → B) (xs : List A) (x : A) → map f (xs ++ x ∷ []) ≡ map f xs ++ f x ∷ []
map_push f xs x = map-append f xs (x ∷ [])

pub below_weaker : (k n : ℕ) (ks : List ℕ) → k ≤ n → AllBelow k ks → AllBelow n ks
below_weaker k n [] l h = tt
below_weaker k n (i ∷ ks) l h = (omega (arith, h.0), below_weaker k n ks l h.1)

pub below_at : {A : Type 0} (number : A → ℕ) (n : ℕ) (xs : List A) (i : ℕ) (d x : A) → AllBelow n (map number xs)
    → i < length xs → x ≡ get_or xs i d → number x < n
below_at number n [] i d x h l is = absurd (omega arith)
below_at number n (y ∷ xs) zero d x h l is = subst (λ z. number z < n) (sym is) h.0
below_at number n (y ∷ xs) (suc i) d x h l is = below_at number n xs i d x h.1 (omega arith) is

-- growing
pub grows_itself : {T : Type 0} (xs : List T) → Grows xs xs
grows_itself xs = record { more = []; is = sym (append-nil xs) }

pub grows_push : {T : Type 0} (xs : List T) (x : T) → Grows xs (xs ++ x ∷ [])
grows_push xs x = record { more = x ∷ []; is = refl }

pub grows_trans : {T : Type 0} (xs ys zs : List T) → Grows xs ys → Grows ys zs → Grows xs zs
grows_trans xs ys zs p q = record {
  more = p.more ++ q.more;
  is = q.is ∙ ap (λ s. s ++ q.more) p.is ∙ append_assoc xs p.more q.more;
}

pub grows_map : {A B : Type 0} (f : A → B) (xs ys : List A) → Grows xs ys → Grows (map f xs) (map f ys)
grows_map f xs ys g = record { more = map f g.more; is = ap (map f) g.is ∙ map-append f xs g.more }

pub stays : {T : Type 0} (xs ys : List T) → Grows xs ys → (i : ℕ) (x : T) → slice_get xs i ≡ Some x
    → slice_get ys i ≡ Some x
stays xs ys g i x e = subst (λ s. slice_get s i ≡ Some x) (sym g.is) (get_append xs g.more i x e)

pub grows_longer : {T : Type 0} (xs ys : List T) → Grows xs ys → length xs ≤ length ys
grows_longer xs ys g = subst (λ s. length xs ≤ length s) (sym g.is) (simp length-append (omega arith))

pub once_empty : {T : Type 0} → StandsOnce {T = T} []
once_empty = λ i j t p q. absurd (none-some t p)
