-- Numbers below the length of a list, each in it once.
use Rattle.std.proofs.Common.{◌≡◌, ◌≢◌, ℕ, zero, suc, ◌<◌, ◌⊎◌, inl, inr, eqb, false, true, List, [], ◌∷◌, length, None, Some, slice_get, slice_index_or, refl, sym, ap, ◌∙◌, subst, arith}
use Rattle.std.proofs.lemmas.Bool.{eqb-true}
use Rattle.std.proofs.lemmas.Bool.Decides.{Decides-eqb, eqb_tells}
use Rattle.std.proofs.lemmas.List.Elements.{All-contains}
use Rattle.std.proofs.lemmas.Map.Made.{IsDistinct-from_AllPairs}
use Rattle.std.proofs.lemmas.Map.Steps.{length-le_from_distinct_below}
use Rattle.std.proofs.lemmas.Map.Views.{Contains-from_any}
use Rattle.std.proofs.lemmas.Option.{get_or_from_slice_get, slice_get_within, slice_get-get_or}
use Rattle.std.specs.List.{All}
use Rattle.iso_normal.specs.PairTrees.{IsPermutation}
use Rattle.iso_normal.proofs.Distinct.{AreDifferent, IsNone, different, distinct}

pub some_injective : {A : Type 0} (a b : A) → Some a ≡ Some b → a ≡ b
some_injective a b e = ap (elim [ None ↦ a | Some x ↦ x ]) e

-- the place of a number, if it has one
find : (k : ℕ) (ks : List ℕ) → ((j : ℕ) × slice_get ks j ≡ Some k) ⊎ IsNone k ks
find k [] = inr tt
find k (n ∷ ns) = cases (eqb_tells k n) (find k ns)
  where
    cases : ((eqb k n ≡ true) × (k ≡ n)) ⊎ ((eqb k n ≡ false) × (k ≢ n)) → ((j : ℕ) × slice_get ns j ≡ Some k) ⊎ IsNone k ns → ((j : ℕ) × slice_get (n ∷ ns) j ≡ Some k) ⊎ IsNone k (n ∷ ns)
    cases (inl e) _ = inl (0, ap Some (sym e.1))
    cases (inr e) (inl found) = inl (suc found.0, found.1)
    cases (inr e) (inr none) = inr (e.1, none)

all_below : (k : ℕ) (ks : List ℕ) (n : ℕ) → k < n → All (λ j. j < n) ks → All (λ j. j < n) (k ∷ ks)
all_below k ks n l h zero d m = l
all_below k ks n l h (suc i) d m = h i d (omega (arith, m))

-- each number below the length stands at a place
pub stands : (ks : List ℕ) → IsPermutation ks → (k : ℕ) → k < length ks → (j : ℕ) × slice_get ks j ≡ Some k
stands ks p k l = cases (find k ks)
  where
    cases : ((j : ℕ) × slice_get ks j ≡ Some k) ⊎ IsNone k ks → (j : ℕ) × slice_get ks j ≡ Some k
    cases (inl found) = found
    cases (inr none) =
        let each = IsDistinct-from_AllPairs Decides-eqb (k ∷ ks) (distinct (k ∷ ks) (none, different ks p.distinct)) in
        let few = length-le_from_distinct_below (k ∷ ks) (length ks) each (λ q h. All-contains (λ j. j < length ks) (k ∷ ks) q (all_below k ks (length ks) l p.below) (Contains-from_any eqb-true q (k ∷ ks) h)) in
        absurd (omega (arith, few))

none_get : (k : ℕ) (ks : List ℕ) (j n : ℕ) → IsNone k ks → slice_get ks j ≡ Some n → k ≢ n
none_get k [] j n h e = absurd (cc e)
none_get k (m ∷ ks) zero n h e = λ same. h.0 (same ∙ sym (some_injective m n e))
none_get k (m ∷ ks) (suc j) n h e = none_get k ks j n h.1 e

-- a number stands at one place
pub one_place : (ks : List ℕ) → AreDifferent ks → (i j k : ℕ) → slice_get ks i ≡ Some k → slice_get ks j ≡ Some k → i ≡ j
one_place [] h i j k p q = absurd (cc p)
one_place (n ∷ ns) h zero zero k p q = refl
one_place (n ∷ ns) h zero (suc j) k p q = absurd (none_get n ns j k h.0 q (some_injective n k p))
one_place (n ∷ ns) h (suc i) zero k p q = absurd (none_get n ns i k h.0 p (some_injective n k q))
one_place (n ∷ ns) h (suc i) (suc j) k p q = ap suc (one_place ns h.1 i j k p q)

-- what holds at each place holds of all
pub all_from : (P : ℕ → Type 0) (ks : List ℕ) → ((j k : ℕ) → slice_get ks j ≡ Some k → P k) → All P ks
all_from P ks h i d l = h i (slice_index_or ks i d) (slice_get-get_or ks i d l)

pub below_at : (ks : List ℕ) → IsPermutation ks → (j k : ℕ) → slice_get ks j ≡ Some k → k < length ks
below_at ks p j k e = subst (λ n. n < length ks) (get_or_from_slice_get ks j k k e) (p.below j k (slice_get_within ks j k e))

pub suc_injective : (m n : ℕ) → suc m ≡ suc n → m ≡ n
suc_injective m n e = omega (arith, e)

-- numbers each of which stands at one place
pub different_from : (ks : List ℕ) → ((i j k : ℕ) → slice_get ks i ≡ Some k → slice_get ks j ≡ Some k → i ≡ j) → AreDifferent ks
different_from [] h = tt
different_from (n ∷ ns) h = (none n ns (λ j e. nowhere (h 0 (suc j) n refl e)), different_from ns (λ i j k p q. suc_injective i j (h (suc i) (suc j) k p q)))
  where
    nowhere : {j : ℕ} → 0 ≡ suc j → ⊥
    nowhere e = omega (arith, e)

    none : (k : ℕ) (ks : List ℕ) → ((j : ℕ) → slice_get ks j ≡ Some k → ⊥) → IsNone k ks
    none k [] h = tt
    none k (n ∷ ks) h = (λ same. h 0 (ap Some (sym same)), none k ks (λ j. h (suc j)))
