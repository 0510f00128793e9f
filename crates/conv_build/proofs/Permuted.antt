-- Small pairings whose places are a permutation at each level.
use Rattle.std.proofs.Common.{◌≡◌, ℕ, ◌-◌, ◌<◌, ◌≤◌, [], ◌∷◌, Some, slice_get, sym, ap, ◌∙◌, subst, arith, zero, suc}
use Rattle.iso_normal.specs.declared.pair_tree.PairTree.{PairTree}
use Rattle.iso_normal.specs.declared.pair_tree.Entry.{Entry}
use Rattle.iso_normal.specs.PairTrees.{ArePermuted, IsPermutation, IsPermuted, args_of, entries_of, level, more, none, place_of, places_of}
use Rattle.iso_normal.proofs.Distinct.{distinct}
use Rattle.iso_normal.proofs.Permutations.{all_from, some_injective}
use Rattle.conv_terms.proofs.Forms.{none_not}

one_permutation : (k : ℕ) → k ≡ 0 → IsPermutation (k ∷ [])
one_permutation k is = record { below = all_from (λ n. n < 1) (k ∷ []) at; distinct = distinct (k ∷ []) (tt, tt) }
  where
    at : (j n : ℕ) → slice_get (k ∷ []) j ≡ Some n → n < 1
    at zero n there = let same = some_injective k n there in omega (arith, same, is)
    at (suc j) n there = absurd (none_not n there)

two_permutation : (k n : ℕ) → k ≤ 1 → n ≡ 1 - k → IsPermutation (k ∷ n ∷ [])
two_permutation k n low is = record { below = all_from (λ m. m < 2) (k ∷ n ∷ []) at; distinct = distinct (k ∷ n ∷ []) (((λ same. let no : ⊥ = omega (arith, same, is, low) in no), tt), (tt, tt)) }
  where
    at : (j m : ℕ) → slice_get (k ∷ n ∷ []) j ≡ Some m → m < 2
    at zero m there = let same = some_injective k m there in omega (arith, same, low)
    at (suc zero) m there = let same = some_injective n m there in omega (arith, same, is)
    at (suc (suc j)) m there = absurd (none_not m there)

pub none_permuted : (p : PairTree) → entries_of p ≡ [] → IsPermuted p
none_permuted p are = level (subst (λ es. IsPermutation (places_of es)) (sym are) (record { below = all_from (λ n. n < 0) [] (λ j n there. absurd (none_not n there)); distinct = distinct [] tt })) (subst ArePermuted (sym are) none)

pub one_permuted : (p : PairTree) (e : Entry) → entries_of p ≡ e ∷ [] → place_of e ≡ 0 → IsPermuted (args_of e) → IsPermuted p
one_permuted p e are place k = level (subst (λ es. IsPermutation (places_of es)) (sym are) (one_permutation (place_of e) place)) (subst ArePermuted (sym are) (more k none))

pub two_permuted : (p : PairTree) (e f : Entry) (first : ℕ) → first ≤ 1 → entries_of p ≡ e ∷ f ∷ [] → place_of e ≡ first → place_of f ≡ 1 - first → IsPermuted (args_of e) → IsPermuted (args_of f) → IsPermuted p
two_permuted p e f first low are place other k l =
    level (subst (λ es. IsPermutation (places_of es)) (sym are) (two_permutation (place_of e) (place_of f) (subst (λ n. n ≤ 1) (sym place) low) (other ∙ ap (λ n. 1 - n) (sym place))))
    (subst ArePermuted (sym are) (more k (more l none)))
