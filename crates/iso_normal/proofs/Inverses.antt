-- Inverses of pairings.
use Rattle.std.proofs.Common.{◌≡◌, ◌≢◌, ℕ, zero, suc, ◌+◌, ◌<◌, ◌==◌, Bool, true, false, if◌then◌else◌, eqb, ◌⊎◌, inl, inr, List, [], ◌∷◌, map, length, Some, slice_get, refl, sym, ap, ap₂, ◌∙◌, subst, arith}
use Rattle.std.proofs.lemmas.Bool.Decides.{eqb_tells}
use Rattle.std.proofs.lemmas.Bool.{eq-eqb}
use Rattle.std.proofs.lemmas.List.{length-map}
use Rattle.std.proofs.lemmas.List.FromFn.{get_or-map-range_with_len, length-map-range_with_len}
use Rattle.std.proofs.lemmas.Option.{slice_get-get_or, slice_get_within}
use Rattle.std.specs.List.{range_with_len}
use Rattle.iso_normal.specs.declared.pair_tree.PairTree.{PairTree}
use Rattle.iso_normal.specs.declared.pair_tree.Entry.{Entry}
use Rattle.iso_normal.specs.declared.pair_tree.Entry.TheFolds.{fold-Entry, fold_out-PairTree, fold_out-Entry}
use Rattle.iso_normal.specs.PairTrees.{ArePermuted, IsPermutation, IsPermuted, args_of, entries_of, entry, inverse, level, more, none, pair_tree, place_of, places_of, standing_at, turned_round}
use Rattle.iso_normal.proofs.Distinct.{AreDifferent, IsNone, different, distinct}
use Rattle.iso_normal.proofs.Permutations.{all_from, below_at, different_from, some_injective, stands}
use Rattle.iso_normal.proofs.TreeParts.{entry_args, entry_place, entry_whole, tree_entries, tree_whole}

-- an entry's place beside the inverse of its pairing of arguments
abbrev pub inverted : Entry → ℕ × PairTree
inverted e = (place_of e, inverse (args_of e))

map_same : {A B : Type 0} (f g : A → B) → ((x : A) → f x ≡ g x) → (xs : List A) → map f xs ≡ map g xs
map_same f g h [] = refl
map_same f g h (x ∷ xs) = ap₂ ◌∷◌ (h x) (map_same f g h xs)

entry_inverted : (e : Entry) → fold-Entry (ℕ × PairTree) PairTree (λ e. (e.place, e.args)) (λ p. turned_round p.entries) e ≡ inverted e
unfolding inverse
entry_inverted e = fold_out-Entry _ _ _ _ e

pub inverse_is : (p : PairTree) → inverse p ≡ turned_round (map inverted (entries_of p))
unfolding inverse
inverse_is p = fold_out-PairTree _ _ _ _ p ∙ ap turned_round (map_same _ inverted entry_inverted (entries_of p))

-- the entry that stands at k
abbrev numbers : List (ℕ × PairTree) → List ℕ
numbers ps = map (λ (x : ℕ × PairTree). x.0) ps

chosen : {A : Type 0} (b c : Bool) (x y : A) → b ≡ c → (if b then x else y) ≡ (if c then x else y)
chosen b c x y e = ap (λ b. if b then x else y) e

is_itself : (k : ℕ) → (k == k) ≡ true
is_itself k = eq-eqb k k refl

is_other : (k n : ℕ) → k ≢ n → (k == n) ≡ false
is_other k n d = cases (eqb_tells k n)
  where
    cases : ((eqb k n ≡ true) × (k ≡ n)) ⊎ ((eqb k n ≡ false) × (k ≢ n)) → (k == n) ≡ false
    cases (inl e) = absurd (d e.1)
    cases (inr e) = e.0

none_later : (n : ℕ) (ps : List (ℕ × PairTree)) (j k : ℕ) (x : PairTree) → IsNone n (numbers ps) → slice_get ps j ≡ Some (k, x) → n ≢ k
none_later n [] j k x h e = absurd (cc e)
none_later n (p ∷ ps) zero k x h e = λ same. h.0 (same ∙ sym (ap (λ (x : ℕ × PairTree). x.0) (some_injective p (k, x) e)))
none_later n (p ∷ ps) (suc j) k x h e = none_later n ps j k x h.1 e

standing : (k i j : ℕ) (ps : List (ℕ × PairTree)) (x : PairTree) → AreDifferent (numbers ps) → slice_get ps j ≡ Some (k, x) → standing_at k i ps ≡ entry (i + j) x
standing k i j [] x h e = absurd (cc e)
standing k i zero (p ∷ ps) x h e =
    let same = some_injective p (k, x) e in
    let here : i ≡ i + 0 = omega arith in
    ap (λ q. standing_at k i (q ∷ ps)) same ∙ chosen (k == k) true _ _ (is_itself k) ∙ ap (λ n. entry n x) here
standing k i (suc j) (p ∷ ps) x h e =
    let step : i + 1 + j ≡ i + suc j = omega arith in
    chosen (p.0 == k) false _ _ (is_other p.0 k (none_later p.0 ps j k x h.0 e)) ∙ standing k (i + 1) j ps x h.1 e ∙ ap (λ n. entry n x) step

turned_at : (ps : List (ℕ × PairTree)) (k : ℕ) → k < length ps → slice_get (entries_of (turned_round ps)) k ≡ Some (standing_at k 0 ps)
turned_at ps k l =
    let f : ℕ → Entry = λ k. standing_at k 0 ps in
    let many = length-map-range_with_len f 0 (length ps) in
    ap (λ es. slice_get es k) (tree_entries _) ∙ slice_get-get_or (map f (range_with_len 0 (length ps))) k (f k) (subst (λ n. k < n) (sym many) l)
    ∙ ap Some (get_or-map-range_with_len f 0 (length ps) k k (f k) l (omega arith))

-- the entries of a tree and of its inverse
places_numbers : (es : List Entry) → numbers (map inverted es) ≡ places_of es
places_numbers [] = refl
places_numbers (e ∷ es) = ap (λ ks. place_of e ∷ ks) (places_numbers es)

pub at_map : {A B : Type 0} (f : A → B) (xs : List A) (j : ℕ) (x : A) → slice_get xs j ≡ Some x → slice_get (map f xs) j ≡ Some (f x)
at_map f [] j x e = absurd (cc e)
at_map f (y ∷ xs) zero x e = ap Some (ap f (some_injective y x e))
at_map f (y ∷ xs) (suc j) x e = at_map f xs j x e

pub of_map : {A B : Type 0} (f : A → B) (xs : List A) (j : ℕ) (y : B) → slice_get (map f xs) j ≡ Some y → (x : A) × (slice_get xs j ≡ Some x) × (f x ≡ y)
of_map f [] j y e = absurd (cc e)
of_map f (x ∷ xs) zero y e = (x, refl, some_injective (f x) y e)
of_map f (x ∷ xs) (suc j) y e = of_map f xs j y e

pub inverse_length : (p : PairTree) → length (entries_of (inverse p)) ≡ length (entries_of p)
inverse_length p =
    let ps : List (ℕ × PairTree) = map inverted (entries_of p) in
    ap (λ q. length (entries_of q)) (inverse_is p) ∙ ap length (tree_entries _) ∙ length-map-range_with_len (λ k. standing_at k 0 ps) 0 (length ps) ∙ length-map (entries_of p) inverted

module _ (p : PairTree) (permutes : IsPermutation (places_of (entries_of p))) where
  -- where entry j has place k, entry k of the inverse has place j
  pub inverse_at : (j : ℕ) (e : Entry) → slice_get (entries_of p) j ≡ Some e → slice_get (entries_of (inverse p)) (place_of e) ≡ Some (entry j (inverse (args_of e)))
  inverse_at j e at =
      let es : List Entry = entries_of p in
      let below = below_at (places_of es) permutes j (place_of e) (at_map place_of es j e at) in
      let within : place_of e < length (map inverted es) = subst (λ n. place_of e < n) (length-map es place_of ∙ sym (length-map es inverted)) below in
      let differ = subst AreDifferent (sym (places_numbers es)) (different (places_of es) permutes.distinct) in
      ap (λ q. slice_get (entries_of q) (place_of e)) (inverse_is p) ∙ turned_at (map inverted es) (place_of e) within
      ∙ ap Some (standing (place_of e) 0 j (map inverted es) (inverse (args_of e)) differ (at_map inverted es j e at) ∙ ap (λ n. entry n (inverse (args_of e))) (zero_and j))
    where
      zero_and : (j : ℕ) → 0 + j ≡ j
      zero_and j = omega arith

  -- each entry of the inverse comes from one of the tree
  pub inverse_from : (k : ℕ) (f : Entry) → slice_get (entries_of (inverse p)) k ≡ Some f → (j : ℕ) × (e : Entry) × (slice_get (entries_of p) j ≡ Some e) × (place_of e ≡ k) × (f ≡ entry j (inverse (args_of e)))
  inverse_from k f at =
      let es : List Entry = entries_of p in
      let below = subst (λ n. k < n) (inverse_length p ∙ sym (length-map es place_of)) (slice_get_within (entries_of (inverse p)) k f at) in
      let found = stands (places_of es) permutes k below in
      let from = of_map place_of es found.0 k found.1 in
      let there = subst (λ k. slice_get (entries_of (inverse p)) k ≡ Some (entry found.0 (inverse (args_of from.0)))) from.2 (inverse_at found.0 from.0 from.1) in
      (found.0, from.0, from.1, from.2, some_injective f _ (sym at ∙ there))

  place_from : (k n : ℕ) → slice_get (places_of (entries_of (inverse p))) k ≡ Some n → (e : Entry) × (slice_get (entries_of p) n ≡ Some e) × (place_of e ≡ k)
  place_from k n at =
      let f = of_map place_of (entries_of (inverse p)) k n at in
      let from = inverse_from k f.0 f.1 in
      let same : from.0 ≡ n = sym (entry_place from.0 (inverse (args_of from.1))) ∙ ap place_of (sym from.4) ∙ f.2 in
      (from.1, subst (λ j. slice_get (entries_of p) j ≡ Some from.1) same from.2, from.3)

  pub inverse_permutes : IsPermutation (places_of (entries_of (inverse p)))
  inverse_permutes = record {
    below = all_from (λ k. k < length (places_of (entries_of (inverse p)))) (places_of (entries_of (inverse p)))
        (λ k n at. subst (λ m. n < m) (sym (length-map (entries_of (inverse p)) place_of ∙ inverse_length p)) (slice_get_within (entries_of p) n _ (place_from k n at).1));
    distinct = distinct _ (different_from (places_of (entries_of (inverse p)))
        (λ i j n a b. let x = place_from i n a in let y = place_from j n b in sym x.2 ∙ ap place_of (some_injective x.0 y.0 (sym x.1 ∙ y.1)) ∙ y.2));
  }

-- permuted trees
permuted_from : (es : List Entry) → ((j : ℕ) (e : Entry) → slice_get es j ≡ Some e → IsPermuted (args_of e)) → ArePermuted es
permuted_from [] h = none
permuted_from (e ∷ es) h = more (h 0 e refl) (permuted_from es (λ j. h (suc j)))

mutual
  pub inverse_permuted : {p : PairTree} → IsPermuted p → IsPermuted (inverse p)
  inverse_permuted (level {p} permutes inner) =
      level (inverse_permutes p permutes) (permuted_from (entries_of (inverse p)) (λ k f at.
      let from = inverse_from p permutes k f at in
      subst IsPermuted (sym (ap args_of from.4 ∙ entry_args from.0 (inverse (args_of from.1)))) (inner_permuted inner from.0 from.1 from.2)))

  inner_permuted : {es : List Entry} → ArePermuted es → (j : ℕ) (e : Entry) → slice_get es j ≡ Some e → IsPermuted (inverse (args_of e))
  inner_permuted none j e at = absurd (cc at)
  inner_permuted (more {e = f} first others) zero e at = subst (λ e. IsPermuted (inverse (args_of e))) (some_injective f e at) (inverse_permuted first)
  inner_permuted (more first others) (suc j) e at = inner_permuted others j e at

same_lists : {A : Type 0} (xs ys : List A) → length xs ≡ length ys → ((j : ℕ) (y : A) → slice_get ys j ≡ Some y → slice_get xs j ≡ Some y) → xs ≡ ys
same_lists [] [] l h = refl
same_lists [] (y ∷ ys) l h = absurd (omega (arith, l))
same_lists (x ∷ xs) [] l h = absurd (omega (arith, l))
same_lists (x ∷ xs) (y ∷ ys) l h = ap₂ ◌∷◌ (some_injective x y (h 0 y refl)) (same_lists xs ys (omega (arith, l)) (λ j. h (suc j)))

mutual
  pub inverse_twice : {p : PairTree} → IsPermuted p → inverse (inverse p) ≡ p
  inverse_twice (level {p} permutes inner) =
      let again = inverse_permutes p permutes in
      let q : PairTree = inverse p in
      let entries = same_lists (entries_of (inverse q)) (entries_of p) (inverse_length q ∙ inverse_length p) (λ j e at.
      let f : Entry = entry j (inverse (args_of e)) in
      let there = inverse_at q again (place_of e) f (inverse_at p permutes j e at) in
      ap (λ k. slice_get (entries_of (inverse q)) k) (sym (entry_place j (inverse (args_of e)))) ∙ there
      ∙ ap Some (ap (entry (place_of e)) (ap inverse (entry_args j (inverse (args_of e))) ∙ inner_twice inner j e at) ∙ entry_whole e)) in
      sym (tree_whole (inverse q)) ∙ ap pair_tree entries ∙ tree_whole p

  inner_twice : {es : List Entry} → ArePermuted es → (j : ℕ) (e : Entry) → slice_get es j ≡ Some e → inverse (inverse (args_of e)) ≡ args_of e
  inner_twice none j e at = absurd (cc at)
  inner_twice (more {e = f} first others) zero e at = subst (λ e. inverse (inverse (args_of e)) ≡ args_of e) (some_injective f e at) (inverse_twice first)
  inner_twice (more first others) (suc j) e at = inner_twice others j e at
