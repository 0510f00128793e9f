-- Tables that give for each place the number of the entry that stands there.
use Rattle.std.proofs.Common.{◌≡◌, ◌≢◌, ℕ, zero, suc, ◌+◌, ◌<◌, ◌≤◌, ◌^◌, ◌⊎◌, inl, inr, eqb, true, false, List, [], ◌∷◌, ◌++◌, length, take, Some, slice_get, slice_set, slice_index_or, refl, sym, ap, ◌∙◌, subst, arith}
use Rattle.std.proofs.lemmas.List.{length-map, length-set, take_all, take_more}
use Rattle.std.proofs.lemmas.Bool.Decides.{eqb_tells}
use Rattle.std.proofs.lemmas.Option.{get_or_from_slice_get, slice_get_within, slice_get-get_or}
use Rattle.iso_normal.specs.declared.pair_tree.PairTree.{PairTree}
use Rattle.iso_normal.specs.declared.pair_tree.Entry.{Entry}
use Rattle.iso_normal.specs.PairTrees.{ArePermuted, IsPermutation, IsPermuted, level, more, none, args_of, entries_of, entry, inverse, pair_tree, place_of, places_of}
use Rattle.iso_normal.proofs.Inverses.{at_map, inverse_at, inverse_length, of_map}
use Rattle.iso_normal.proofs.TreeParts.{tree_entries, tree_whole}
use Rattle.iso_normal.proofs.Permutations.{below_at, one_place, some_injective, stands}
use Rattle.iso_normal.proofs.Distinct.{different}

pub place_below : (es : List Entry) (i : ℕ) (e : Entry) → IsPermutation (places_of es) → slice_get es i ≡ Some e → place_of e < length es
place_below es i e permutes at = subst (λ n. place_of e < n) (length-map es place_of) (below_at (places_of es) permutes i (place_of e) (at_map place_of es i e at))

-- the numbers of the first entries stand at their places, which fit
abbrev pub AreNumbered : List ℕ → List Entry → ℕ → Type 0
AreNumbered numbers es i = (j : ℕ) (e : Entry) → j < i → slice_get es j ≡ Some e → (slice_get numbers (place_of e) ≡ Some j) × (place_of e < 2 ^ 32)

set_same : (xs : List ℕ) (k x : ℕ) → k < length xs → slice_get (slice_set xs k x) k ≡ Some x
set_same [] k x l = absurd (omega (arith, l))
set_same (y ∷ xs) zero x l = refl
set_same (y ∷ xs) (suc k) x l = set_same xs k x (omega (arith, l))

set_other : (xs : List ℕ) (k j x : ℕ) → j ≢ k → slice_get (slice_set xs k x) j ≡ slice_get xs j
set_other [] k j x d = refl
set_other (y ∷ xs) zero zero x d = absurd (d refl)
set_other (y ∷ xs) zero (suc j) x d = refl
set_other (y ∷ xs) (suc k) zero x d = refl
set_other (y ∷ xs) (suc k) (suc j) x d = set_other xs k j x (λ e. d (ap suc e))

pub numbered_next : (es : List Entry) (numbers : List ℕ) (i k : ℕ) → IsPermutation (places_of es) → i < length es → length numbers ≡ length es → AreNumbered numbers es i
    → ((e : Entry) → slice_get es i ≡ Some e → k ≡ place_of e) → k < 2 ^ 32
    → (length (slice_set numbers k i) ≡ length es) × AreNumbered (slice_set numbers k i) es (i + 1)
numbered_next es numbers i k permutes l m n is fits = (length-set numbers k i ∙ m, λ j e below at. cases j e below at (eqb_tells j i))
  where
    cases : (j : ℕ) (e : Entry) → j < i + 1 → slice_get es j ≡ Some e → ((eqb j i ≡ true) × (j ≡ i)) ⊎ ((eqb j i ≡ false) × (j ≢ i)) → (slice_get (slice_set numbers k i) (place_of e) ≡ Some j) × (place_of e < 2 ^ 32)
    cases j e below at (inl same) =
        let here : k ≡ place_of e = is e (ap (slice_get es) (sym same.1) ∙ at) in
        let within : place_of e < length numbers = subst (λ n. place_of e < n) (sym m) (place_below es j e permutes at) in (
          ap (λ k. slice_get (slice_set numbers k i) (place_of e)) here ∙ set_same numbers (place_of e) i within ∙ ap Some (sym same.1),
          subst (λ k. k < 2 ^ 32) here fits,
        )
    cases j e below at (inr other) =
        let old = n j e (less j i below other.1) at in
        let f : Entry = slice_index_or es i e in
        let there : slice_get es i ≡ Some f = slice_get-get_or es i e l in
        let apart : place_of e ≢ k = λ same. other.1 (one_place (places_of es) (different (places_of es) permutes.distinct) j i k (at_map place_of es j e at ∙ ap Some same)
        (at_map place_of es i f there ∙ ap Some (sym (is f there)))) in
        (set_other numbers k (place_of e) i apart ∙ old.0, old.1)
      where
        less : (j i : ℕ) → j < i + 1 → j ≢ i → j < i
        less j i l d = omega (arith, l, d)

pub place_within : (es : List Entry) (numbers : List ℕ) (i k : ℕ) → IsPermutation (places_of es) → i < length es → length numbers ≡ length es → ((e : Entry) → slice_get es i ≡ Some e → k ≡ place_of e) → k < length numbers
place_within es numbers i k permutes l m is = found es i l (λ e at. subst (λ n. k < n) (sym m) (subst (λ k. k < length es) (sym (is e at)) (place_below es i e permutes at)))
  where
    found : (es : List Entry) (i : ℕ) → i < length es → ((e : Entry) → slice_get es i ≡ Some e → k < length numbers) → k < length numbers
    found [] i l h = omega (arith, l)
    found (e ∷ es) zero l h = h e refl
    found (e ∷ es) (suc i) l h = found es i (omega (arith, l)) h

-- all entries, once the loop is at its end
pub all_numbered : (es : List Entry) (numbers : List ℕ) (i : ℕ) → length es ≤ i → AreNumbered numbers es i → AreNumbered numbers es (length es)
all_numbered es numbers i l n j e below at = n j e (omega (arith, l, below)) at

pub few_entries : (es : List Entry) (numbers : List ℕ) → IsPermutation (places_of es) → AreNumbered numbers es (length es) → length es ≤ 2 ^ 32
few_entries [] numbers permutes n = omega arith
few_entries (e ∷ es) numbers permutes n =
    let last = stands (places_of (e ∷ es)) permutes (length es) (subst (λ n. length es < n) (sym (length-map (e ∷ es) place_of)) (omega arith)) in
    let from = of_map place_of (e ∷ es) last.0 (length es) last.1 in
    let fits = (n last.0 from.0 (slice_get_within (e ∷ es) last.0 from.0 from.1) from.1).1 in
    subst (λ k. suc k ≤ 2 ^ 32) from.2 fits

-- what stands in the table at place k is the number of the entry that has this place
pub record Standing (p : PairTree) (es : List Entry) (k i : ℕ) : Type 0 where
  pub e : Entry
  pub at : slice_get es i ≡ Some e
  pub place : place_of e ≡ k
  pub below : i < length es
  pub small : i < 2 ^ 32
  pub permuted : (d : Entry) → IsPermuted (args_of (slice_index_or es i d))
  pub result : slice_get (entries_of (inverse p)) k ≡ Some (entry i (inverse (args_of e)))

args_permuted : {es : List Entry} → ArePermuted es → (i : ℕ) (e : Entry) → slice_get es i ≡ Some e → IsPermuted (args_of e)
args_permuted none i e at = absurd (cc at)
args_permuted (more {e = f} first others) zero e at = subst (λ e. IsPermuted (args_of e)) (some_injective f e at) first
args_permuted (more first others) (suc i) e at = args_permuted others i e at

pub permuted_places : {p : PairTree} → IsPermuted p → IsPermutation (places_of (entries_of p))
permuted_places (level permutes inner) = permutes

permuted_args : {p : PairTree} → IsPermuted p → ArePermuted (entries_of p)
permuted_args (level permutes inner) = inner

pub standing_number : (es : List Entry) (numbers items : List ℕ) (k i d : ℕ) → IsPermutation (places_of es) → ArePermuted es → length numbers ≡ length es
    → ((j : ℕ) (e : Entry) → slice_get es j ≡ Some e → slice_get numbers (place_of e) ≡ Some j) → length es ≤ 2 ^ 32 → items ≡ numbers → k < length items → i ≡ slice_index_or items k d
    → Standing (pair_tree es) es k i
standing_number es numbers items k i d permutes inner m table few l below is =
    let p : PairTree = pair_tree es in
    let same : es ≡ entries_of p = sym (tree_entries es) in
    let inside : k < length (places_of es) = subst (λ n. k < n) (ap length l ∙ m ∙ sym (length-map es place_of)) below in
    let found = stands (places_of es) permutes k inside in
    let from = of_map place_of es found.0 k found.1 in
    let number : i ≡ found.0 = is ∙ ap (λ ns. slice_index_or ns k d) l ∙ get_or_from_slice_get numbers k found.0 d (ap (slice_get numbers) (sym from.2) ∙ table found.0 from.0 from.1) in
    let at : slice_get es i ≡ Some from.0 = ap (slice_get es) number ∙ from.1 in
    let there = inverse_at p (subst (λ es. IsPermutation (places_of es)) same permutes) i from.0 (ap (λ es. slice_get es i) (tree_entries es) ∙ at) in
    record {
      e = from.0;
      at = at;
      place = from.2;
      below = slice_get_within es i from.0 at;
      small = omega (arith, slice_get_within es i from.0 at, few);
      permuted = λ d. subst (λ e. IsPermuted (args_of e)) (sym (get_or_from_slice_get es i from.0 d at)) (args_permuted inner i from.0 at);
      result = ap (slice_get (entries_of (inverse p))) (sym from.2) ∙ there;
    }

-- the entries made so far, and one more
pub entries_next : (p : PairTree) (es : List Entry) (k i : ℕ) (done new : List Entry) (d : Entry) (q : PairTree) → Standing p es k i → done ≡ take k (entries_of (inverse p)) → q ≡ inverse (args_of (slice_index_or es i d))
    → new ≡ done ++ entry i q ∷ [] → new ≡ take (k + 1) (entries_of (inverse p))
entries_next p es k i done new d q s before is pushed =
    let all : List Entry = entries_of (inverse p) in
    let e : Entry = entry i (inverse (args_of s.e)) in
    let same : q ≡ inverse (args_of s.e) = is ∙ ap (λ e. inverse (args_of e)) (get_or_from_slice_get es i s.e d s.at) in
    let last : slice_index_or all k e ≡ e = get_or_from_slice_get all k e e s.result in
    pushed ∙ ap (λ q. done ++ entry i q ∷ []) same ∙ ap (λ es. es ++ e ∷ []) before ∙ ap (λ x. take k all ++ x ∷ []) (sym last) ∙ sym (take_more all k e (slice_get_within all k e s.result))

pub all_entries : (es : List Entry) (numbers : List ℕ) (k : ℕ) (done : List Entry) → length numbers ≡ length es → length numbers ≤ k → done ≡ take k (entries_of (inverse (pair_tree es))) → done ≡ entries_of (inverse (pair_tree es))
all_entries es numbers k done many l before =
    let enough = subst (λ n. n ≤ k) (many ∙ ap length (sym (tree_entries es)) ∙ sym (inverse_length (pair_tree es))) l in
    before ∙ take_all k (entries_of (inverse (pair_tree es))) enough

pub tree_made : (p : PairTree) (es fs : List Entry) → es ≡ entries_of p → fs ≡ entries_of (inverse (pair_tree es)) → pair_tree fs ≡ inverse p
tree_made p es fs same is = ap pair_tree is ∙ tree_whole (inverse (pair_tree es)) ∙ ap inverse (ap pair_tree same ∙ tree_whole p)
