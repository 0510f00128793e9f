-- Small trees whose places are a permutation at each level.
use Rattle.std.proofs.Common.{◌≡◌, ℕ, zero, suc, ◌<◌, List, [], ◌∷◌, ◌++◌, Some, slice_get, sym, ap, ap₂, ◌∙◌, subst, arith}
use Rattle.iso_normal.specs.declared.pair_tree.PairTree.{PairTree}
use Rattle.iso_normal.specs.declared.pair_tree.Entry.{Entry}
use Rattle.iso_normal.specs.PairTrees.{ArePermuted, IsPermutation, IsPermuted, entry, level, more, none, pair_tree, places_of}
use Rattle.iso_normal.proofs.Distinct.{distinct}
use Rattle.iso_normal.proofs.Permutations.{all_from, some_injective}
use Rattle.iso_normal.proofs.TreeParts.{entry_args, entry_place, tree_entries}

made_permuted : (es : List Entry) → IsPermutation (places_of es) → ArePermuted es → IsPermuted (pair_tree es)
made_permuted es permutes inner = level (subst (λ es. IsPermutation (places_of es)) (sym (tree_entries es)) permutes) (subst ArePermuted (sym (tree_entries es)) inner)

more_permuted : (k : ℕ) (q : PairTree) (es : List Entry) → IsPermuted q → ArePermuted es → ArePermuted (entry k q ∷ es)
more_permuted k q es p others = more (subst IsPermuted (sym (entry_args k q)) p) others

two_below : (j k : ℕ) → slice_get (1 ∷ 0 ∷ []) j ≡ Some k → k < 2
two_below zero k e = omega (arith, some_injective 1 k e)
two_below (suc zero) k e = omega (arith, some_injective 0 k e)
two_below (suc (suc j)) k e = absurd (cc e)

three_below : (j k : ℕ) → slice_get (1 ∷ 2 ∷ 0 ∷ []) j ≡ Some k → k < 3
three_below zero k e = omega (arith, some_injective 1 k e)
three_below (suc zero) k e = omega (arith, some_injective 2 k e)
three_below (suc (suc zero)) k e = omega (arith, some_injective 0 k e)
three_below (suc (suc (suc j))) k e = absurd (cc e)

nothing_permuted : IsPermuted (pair_tree [])
nothing_permuted = made_permuted [] (record { below = λ k d l. absurd (omega (arith, l)); distinct = distinct [] tt }) none

pub exchange_permuted : (es : List Entry) (a b : Entry) → es ≡ a ∷ b ∷ [] → a ≡ entry 1 (pair_tree []) → b ≡ entry 0 (pair_tree []) → IsPermuted (pair_tree es)
exchange_permuted es a b is first second =
    let q : PairTree = pair_tree [] in
    let places : 1 ∷ 0 ∷ [] ≡ places_of (entry 1 q ∷ entry 0 q ∷ []) = sym (ap₂ (λ i j. i ∷ j ∷ []) (entry_place 1 q) (entry_place 0 q)) in
    let permutes : IsPermutation (1 ∷ 0 ∷ []) = record { below = all_from (λ k. k < 2) (1 ∷ 0 ∷ []) two_below; distinct = distinct (1 ∷ 0 ∷ []) ((omega arith, tt), (tt, tt)) } in
    subst (λ es. IsPermuted (pair_tree es)) (sym (is ∙ ap₂ (λ a b. a ∷ b ∷ []) first second))
    (made_permuted (entry 1 q ∷ entry 0 q ∷ []) (subst IsPermutation places permutes) (more_permuted 1 q _ nothing_permuted (more_permuted 0 q [] nothing_permuted none)))

pub cycle_permuted : (es fs : List Entry) (p : PairTree) (b c : Entry) → IsPermuted p → fs ≡ entry 1 p ∷ b ∷ [] → es ≡ fs ++ c ∷ [] → b ≡ entry 2 (pair_tree []) → c ≡ entry 0 (pair_tree []) → IsPermuted (pair_tree es)
cycle_permuted es fs p b c inner is pushed second third =
    let q : PairTree = pair_tree [] in
    let all : List Entry = entry 1 p ∷ entry 2 q ∷ entry 0 q ∷ [] in
    let places : 1 ∷ 2 ∷ 0 ∷ [] ≡ places_of all = ap₂ ◌∷◌ (sym (entry_place 1 p)) (ap₂ (λ i j. i ∷ j ∷ []) (sym (entry_place 2 q)) (sym (entry_place 0 q))) in
    let permutes : IsPermutation (1 ∷ 2 ∷ 0 ∷ []) = record { below = all_from (λ k. k < 3) (1 ∷ 2 ∷ 0 ∷ []) three_below; distinct = distinct (1 ∷ 2 ∷ 0 ∷ []) ((omega arith, (omega arith, tt)), ((omega arith, tt), (tt, tt))) } in
    subst (λ es. IsPermuted (pair_tree es)) (sym (pushed ∙ ap (λ fs. fs ++ c ∷ []) is ∙ ap₂ (λ b c. entry 1 p ∷ b ∷ c ∷ []) second third))
    (made_permuted all (subst IsPermutation places permutes) (more_permuted 1 p _ inner (more_permuted 2 q _ nothing_permuted (more_permuted 0 q [] nothing_permuted none))))
