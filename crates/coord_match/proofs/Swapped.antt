-- Where two places hold the same coordinate, one does as well as the other.
use Rattle.std.proofs.Common.{◌≡◌, ◌≢◌, ℕ, ◌==◌, Bool, true, false, true≢false, List, [], ◌∷◌, ◌++◌, map, Some, slice_get, refl, sym, ap, ap₂, ◌∙◌, subst}
use Rattle.std.specs.Bool.{Decides}
use Rattle.std.proofs.lemmas.Bool.Decides.{Decides-eqb}
use Rattle.type_core.specs.declared.coordinate.Coordinate.{Coordinate}
use Rattle.type_core.specs.declared.ty.Ty.{Ty}
use Rattle.type_core.specs.Coordinates.{arguments_of}
use Rattle.iso_normal.specs.declared.pair_tree.Entry.{Entry}
use Rattle.iso_normal.specs.PairTrees.{args_of, entry, place_of, places_of, word_of}
use Rattle.iso_normal.specs.Pairings as pairing
use Rattle.iso_normal.specs.Pairings.{PairEach, Pairs}
use Rattle.iso_normal.proofs.Distinct.{AreDifferent, IsNone, different, distinct}
use Rattle.coord_match.specs.search.Bindings.{Bindings}
use Rattle.iso_normal.specs.Consistency.{Turns}
use Rattle.coord_match.specs.search.Tasks.{AreFree, FillingAt, Goal, HasNone, IsFree, fill, words}
use Rattle.iso_normal.proofs.TreeParts.{entry_args, entry_place}

module _ (p q : ℕ) where
  -- p and q change places
  abbrev by_tests : ℕ → Bool → Bool → ℕ
  by_tests k true second = q
  by_tests k false true = p
  by_tests k false false = k

  abbrev swapped : ℕ → ℕ
  swapped k = by_tests k (k == p) (k == q)

  -- where k goes
  data Goes (k : ℕ) : ℕ → Type 0 where
    from_p : k ≡ p → Goes k q
    from_q : k ≢ p → k ≡ q → Goes k p
    stays : k ≢ p → k ≢ q → Goes k k

  goes_by : (k : ℕ) (x y : Bool) → Decides x (k ≡ p) → Decides y (k ≡ q) → Goes k (by_tests k x y)
  goes_by k true y d e = from_p (d.0 refl)
  goes_by k false true d e = from_q (λ f. true≢false (sym (d.1 f))) (e.0 refl)
  goes_by k false false d e = stays (λ f. true≢false (sym (d.1 f))) (λ f. true≢false (sym (e.1 f)))

  goes : (k : ℕ) → Goes k (swapped k)
  goes k = goes_by k (k == p) (k == q) (Decides-eqb k p) (Decides-eqb k q)

  injective : {j k m n : ℕ} → Goes j m → Goes k n → m ≡ n → j ≡ k
  injective (from_p e) (from_p f) g = e ∙ sym f
  injective (from_p e) (from_q d f) g = e ∙ sym g ∙ sym f
  injective (from_p e) (stays d h) g = absurd (h (sym g))
  injective (from_q d e) (from_p f) g = e ∙ sym g ∙ sym f
  injective (from_q d e) (from_q c f) g = e ∙ sym f
  injective (from_q d e) (stays c h) g = absurd (c (sym g))
  injective (stays d h) (from_p f) g = absurd (h g)
  injective (stays d h) (from_q c f) g = absurd (d g)
  injective (stays d h) (stays c i) g = g

  none_moved : (k : ℕ) (ns : List ℕ) → IsNone k ns → IsNone (swapped k) (map swapped ns)
  none_moved k [] h = tt
  none_moved k (n ∷ ns) h = (λ e. h.0 (injective (goes k) (goes n) e), none_moved k ns h.1)

  still_different : (ns : List ℕ) → AreDifferent ns → AreDifferent (map swapped ns)
  still_different [] h = tt
  still_different (n ∷ ns) h = (none_moved n ns h.0, still_different ns h.1)

  module _ (taken : List Bool) (p_free : IsFree taken p) (q_free : IsFree taken q) where
    free_at : {k m : ℕ} → Goes k m → IsFree taken k → IsFree taken m
    free_at (from_p e) f = q_free
    free_at (from_q d e) f = p_free
    free_at (stays d h) f = f

    still_free : (ks : List ℕ) → AreFree taken ks → AreFree taken (map swapped ks)
    still_free [] f = tt
    still_free (k ∷ ks) f = (free_at (goes k) f.0, still_free ks f.1)

  abbrev moved : Entry → Entry
  moved e = entry (swapped (place_of e)) (args_of e)

  places_moved : (es : List Entry) → places_of (map moved es) ≡ map swapped (places_of es)
  places_moved [] = refl
  places_moved (e ∷ es) = ap₂ ◌∷◌ (entry_place (swapped (place_of e)) (args_of e)) (places_moved es)

  module _ (d : List Coordinate) (same : slice_get d p ≡ slice_get d q) where
    same_at : {k m : ℕ} → Goes k m → slice_get d m ≡ slice_get d k
    same_at (from_p e) = sym same ∙ ap (slice_get d) (sym e)
    same_at (from_q h e) = same ∙ ap (slice_get d) (sym e)
    same_at (stays h i) = refl

    each_moved : {Heads : Ty → Ty → Type 0} {c e : List Coordinate} {es : List Entry} → e ≡ d → PairEach Heads c e es → PairEach Heads c e (map moved es)
    each_moved f pairing.none = pairing.none
    each_moved {Heads} f (pairing.more {a} {b} {e = one} at head inner others) =
        pairing.more
        (subst (λ x. slice_get x (place_of (moved one)) ≡ Some b) (sym f)
        (ap (slice_get d) (entry_place (swapped (place_of one)) (args_of one)) ∙ same_at (goes (place_of one)) ∙ subst (λ x. slice_get x (place_of one) ≡ Some b) f at))
        head (subst (Pairs Heads (arguments_of a) (arguments_of b)) (sym (entry_args (swapped (place_of one)) (args_of one))) inner) (each_moved f others)

  -- the first place is p, and so q after the exchange
  first_moved : (w : List ℕ) (es : List Entry) (rest : List ℕ) → p ∷ w ≡ words es ++ rest → {c : Coordinate} {cs d : List Coordinate} {Heads : Ty → Ty → Type 0} → PairEach Heads (c ∷ cs) d es
      → (v : List ℕ) × (words (map moved es) ++ rest ≡ q ∷ v)
  first_moved w [] rest is x = elim x [ ]
  first_moved w (e ∷ es) rest is (pairing.more at head inner others) =
      let here : place_of e ≡ p = sym (cc is) in
      (_, ap (λ k. k ∷ (word_of (args_of (moved e)) ++ words (map moved es)) ++ rest) (entry_place (swapped (place_of e)) (args_of e) ∙ ap swapped here ∙ at_p (goes p)))
    where
      at_p : {m : ℕ} → Goes p m → m ≡ q
      at_p (from_p e) = refl
      at_p (from_q d e) = e
      at_p (stays d e) = absurd (d refl)

module _ (s : Bindings) (goal : Goal) (goals : List Goal) (a : Coordinate) (c : List Coordinate) (next : goal.left ≡ a ∷ c) (p q : ℕ) (q_free : IsFree goal.taken q) (same : slice_get goal.others q ≡ slice_get goal.others p) where
  place_free : (w : List ℕ) (es : List Entry) (rest : List ℕ) → p ∷ w ≡ words es ++ rest → {Heads : Ty → Ty → Type 0} → {d : List Coordinate} → PairEach Heads (a ∷ c) d es → AreFree goal.taken (places_of es) → IsFree goal.taken p
  place_free w [] rest is x free = elim x [ ]
  place_free w (e ∷ es) rest is (pairing.more at head inner others) free = subst (IsFree goal.taken) (here is) free.0
    where
      here : p ∷ w ≡ words (e ∷ es) ++ rest → place_of e ≡ p
      here is = sym (cc is)

  pub none_at_same : HasNone s (FillingAt goal goals q) → HasNone s (FillingAt goal goals p)
  none_at_same none r al w (fill {rest} es each u free is others) =
      let whole = subst (λ l. PairEach (Turns r) l goal.others es) next each in
      let first = first_moved p q w es rest is whole in
      none r al first.0
      (fill (map (moved p q) es) (each_moved p q goal.others (sym same) refl each)
      (distinct _ (subst AreDifferent (sym (places_moved p q es)) (still_different p q (places_of es) (different _ u))))
      (subst (AreFree goal.taken) (sym (places_moved p q es)) (still_free p q goal.taken (place_free w es rest is whole free) q_free (places_of es) free))
      (sym first.1) others)
