-- Numbers that differ from each other, by recursion on the list.
use Rattle.std.proofs.Common.{◌≢◌, ℕ, zero, suc, ◌<◌, List, [], ◌∷◌, length, slice_index_or, arith}
use Rattle.type_core.specs.ValidLibrary.{AreDistinct}

-- k is none of them
abbrev pub IsNone : ℕ → List ℕ → Type 0
IsNone k [] = Unit {0}
IsNone k (n ∷ ns) = (k ≢ n) × IsNone k ns

-- none is among the later ones
abbrev pub AreDifferent : List ℕ → Type 0
AreDifferent [] = Unit {0}
AreDifferent (n ∷ ns) = IsNone n ns × AreDifferent ns

is_none : (k : ℕ) (ns : List ℕ) → ((j d : ℕ) → j < length ns → k ≢ slice_index_or ns j d) → IsNone k ns
is_none k [] h = tt
is_none k (n ∷ ns) h = (h 0 0 (omega arith), is_none k ns (λ j d l. h (suc j) d (omega (arith, l))))

pub different : (ns : List ℕ) → AreDistinct ns → AreDifferent ns
different [] h = tt
different (n ∷ ns) h =
    (is_none n ns (λ j d l. h 0 (suc j) d (omega arith) (omega (arith, l))), different ns (λ i j d l m. h (suc i) (suc j) d (omega (arith, l)) (omega (arith, m))))

none_at : (k : ℕ) (ns : List ℕ) → IsNone k ns → (j d : ℕ) → j < length ns → k ≢ slice_index_or ns j d
none_at k [] h j d l = omega (arith, l)
none_at k (n ∷ ns) h zero d l = h.0
none_at k (n ∷ ns) h (suc j) d l = none_at k ns h.1 j d (omega (arith, l))

pub distinct : (ns : List ℕ) → AreDifferent ns → AreDistinct ns
distinct [] h i j d l m = omega (arith, m)
distinct (n ∷ ns) h zero zero d l m = omega (arith, l)
distinct (n ∷ ns) h zero (suc j) d l m = none_at n ns h.0 j d (omega (arith, m))
distinct (n ∷ ns) h (suc i) zero d l m = omega (arith, l)
distinct (n ∷ ns) h (suc i) (suc j) d l m = distinct ns h.1 i j d (omega (arith, l)) (omega (arith, m))
