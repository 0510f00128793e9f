-- Words that fill goals, one coordinate after another.
use Rattle.std.proofs.Common.{◌≡◌, ◌≢◌, ℕ, zero, suc, ◌<◌, Bool, true, false, List, [], ◌∷◌, ◌++◌, length, map, replicate, Some, slice_get, slice_set, refl, sym, ap, ap₂, ◌∙◌, subst, append_assoc}
use Rattle.std.proofs.lemmas.List.{get_or-replicate, length-replicate}
use Rattle.std.proofs.lemmas.Option.{slice_get-get_or, slice_get_within}
use Rattle.type_core.specs.declared.coordinate.Coordinate.{Coordinate}
use Rattle.type_core.specs.declared.ty.Ty.{Ty}
use Rattle.type_core.specs.Coordinates.{arguments_of, head_of}
use Rattle.type_core.specs.Lists.{concatenated}
use Rattle.type_core.specs.ValidLibrary.{AreDistinct}
use Rattle.iso_normal.specs.declared.pair_tree.PairTree.{PairTree}
use Rattle.iso_normal.specs.declared.pair_tree.Entry.{Entry}
use Rattle.iso_normal.specs.declared.pair_tree.Entry.TheFolds.{fold-Entry, fold_out-PairTree, fold_out-Entry}
use Rattle.iso_normal.specs.PairTrees.{args_of, entries_of, entry, pair_tree, place_of, places_of, word_of, word_entry_step, word_step}
use Rattle.iso_normal.specs.Pairings as pairing
use Rattle.iso_normal.specs.Pairings.{PairEach, Pairs, pairs}
use Rattle.iso_normal.proofs.TreeParts.{entry_args, entry_place, tree_entries}
use Rattle.iso_normal.proofs.Distinct.{AreDifferent, IsNone, different, distinct}
use Rattle.coord_match.specs.search.Tasks.{AreFree, Fills, Goal, IsFree, fill, words}

-- the word of a pairing is that of its entries
words_are : (es : List Entry) → concatenated (map (fold-Entry (List ℕ) (List ℕ) word_entry_step word_step) es) ≡ words es
unfolding word_of
words_are [] = refl
words_are (e ∷ es) = ap₂ ◌++◌ (fold_out-Entry _ _ _ _ e) (words_are es)

pub word_is : (p : PairTree) → word_of p ≡ words (entries_of p)
unfolding word_of
word_is p = fold_out-PairTree _ _ _ _ p ∙ words_are (entries_of p)

-- places that are taken
module _ (k : ℕ) where
  some_taken : (taken : List Bool) (j : ℕ) → IsFree (slice_set taken k true) j → (k ≢ j) × IsFree taken j
  some_taken taken j e = go k taken j e
    where
      go : (k : ℕ) (taken : List Bool) (j : ℕ) → slice_get (slice_set taken k true) j ≡ Some false → (k ≢ j) × (slice_get taken j ≡ Some false)
      go k [] j e = absurd (cc e)
      go zero (t ∷ taken) zero e = absurd (cc e)
      go zero (t ∷ taken) (suc j) e = (λ f. cc f, e)
      go (suc k) (t ∷ taken) zero e = (λ f. cc f, e)
      go (suc k) (t ∷ taken) (suc j) e = let r = go k taken j e in (λ f. r.0 (cc f), r.1)

  still_free : (taken : List Bool) (j : ℕ) → k ≢ j → IsFree taken j → IsFree (slice_set taken k true) j
  still_free taken j d e = go k taken j d e
    where
      go : (k : ℕ) (taken : List Bool) (j : ℕ) → k ≢ j → slice_get taken j ≡ Some false → slice_get (slice_set taken k true) j ≡ Some false
      go k [] j d e = absurd (cc e)
      go zero (t ∷ taken) zero d e = absurd (d refl)
      go zero (t ∷ taken) (suc j) d e = e
      go (suc k) (t ∷ taken) zero d e = e
      go (suc k) (t ∷ taken) (suc j) d e = go k taken j (λ f. d (ap suc f)) e

  pub not_taken : (taken : List Bool) (ks : List ℕ) → AreFree (slice_set taken k true) ks → IsNone k ks × AreFree taken ks
  not_taken taken [] f = (tt, tt)
  not_taken taken (j ∷ ks) f = let here = some_taken taken j f.0 in let rest = not_taken taken ks f.1 in ((here.0, rest.0), (here.1, rest.1))

  pub also_free : (taken : List Bool) (ks : List ℕ) → IsNone k ks → AreFree taken ks → AreFree (slice_set taken k true) ks
  also_free taken [] d f = tt
  also_free taken (j ∷ ks) d f = (still_free taken j d.0 f.0, also_free taken ks d.1 f.1)

-- each place of so many is free
abbrev pub AllFree : List Bool → ℕ → Type 0
AllFree taken n = (k : ℕ) → k < n → IsFree taken k

-- the next coordinate of a goal, with the place that the word gives it
pub record Step (Heads : Ty → Ty → Type 0) (a : Coordinate) (c : List Coordinate) (goal : Goal) (goals : List Goal) (w : List ℕ) : Type 0 where
  pub place : ℕ
  pub partner : Coordinate
  pub rest : List ℕ
  pub is : w ≡ place ∷ rest
  pub stands : slice_get goal.others place ≡ Some partner
  pub free : IsFree goal.taken place
  pub as_many : length (arguments_of a) ≡ length (arguments_of partner)
  pub heads : Heads (head_of a) (head_of partner)
  pub fills : (fresh : List Bool) → AllFree fresh (length (arguments_of partner))
      → Fills Heads (record { left = arguments_of a; others = arguments_of partner; taken = fresh } ∷ record { left = c; others = goal.others; taken = slice_set goal.taken place true } ∷ goals) rest

pub none_is_taken : (n : ℕ) → AllFree (replicate n false) n
none_is_taken n k l = slice_get-get_or (replicate n false) k false (subst (λ m. k < m) (sym (length-replicate n false)) l) ∙ ap Some (get_or-replicate n k false false l)

module _ {Heads : Ty → Ty → Type 0} where
  pub free_places : {c d : List Coordinate} {es : List Entry} (taken : List Bool) → AllFree taken (length d) → PairEach Heads c d es → AreFree taken (places_of es)
  free_places taken all pairing.none = tt
  free_places {d} taken all (pairing.more {b} {e} at head inside others) = (all (place_of e) (slice_get_within d (place_of e) b at), free_places taken all others)

  nothing_left : {c d : List Coordinate} {es : List Entry} → PairEach Heads c d es → c ≡ [] → es ≡ []
  nothing_left pairing.none e = refl
  nothing_left (pairing.more at head inside others) e = absurd (cc e)

  -- a goal with nothing left
  pub past_end : {goal : Goal} {goals : List Goal} {w : List ℕ} → goal.left ≡ [] → Fills Heads (goal ∷ goals) w → Fills Heads goals w
  past_end {goals} e (fill {rest} es each different free is others) =
      subst (Fills Heads goals) (sym (is ∙ ap (λ es. words es ++ rest) (nothing_left each e))) others

  pub with_end : {goal : Goal} {goals : List Goal} {w : List ℕ} → goal.left ≡ [] → Fills Heads goals w → Fills Heads (goal ∷ goals) w
  with_end {goal} e others = fill [] (subst (λ c. PairEach Heads c goal.others []) (sym e) pairing.none) (distinct [] tt) tt refl others

  pairs_length : {c d : List Coordinate} {p : PairTree} → Pairs Heads c d p → length c ≡ length d
  pairs_length (pairs l u each) = l

  pairs_different : {c d : List Coordinate} {p : PairTree} → Pairs Heads c d p → AreDistinct (places_of (entries_of p))
  pairs_different (pairs l u each) = u

  pairs_each : {c d : List Coordinate} {p : PairTree} → Pairs Heads c d p → PairEach Heads c d (entries_of p)
  pairs_each (pairs l u each) = each

  step_of : {d : List Coordinate} {c : List Coordinate} {es : List Entry} {goals : List Goal} {rest w : List ℕ} (taken : List Bool)
      → PairEach Heads c d es → AreDifferent (places_of es) → AreFree taken (places_of es) → w ≡ words es ++ rest → Fills Heads goals rest
      → (left : List Coordinate) (a : Coordinate) (more : List Coordinate) → c ≡ a ∷ more → Step Heads a more (record { left = left; others = d; taken = taken }) goals w
  step_of taken pairing.none u f is others left a more e = absurd (cc e)
  step_of {d} {rest} {w} taken (pairing.more {a = x} {b} {c} {e = e} {entries = es} at head inside each) u f is others left a more eq =
      let same_a : x ≡ a = cc eq in
      let same_c : c ≡ more = cc eq in
      record {
        place = place_of e;
        partner = b;
        rest = word_of (args_of e) ++ (words es ++ rest);
        is = is ∙ ap (λ v. place_of e ∷ v) (append_assoc (word_of (args_of e)) (words es) rest);
        stands = at;
        free = f.0;
        as_many = ap (λ x. length (arguments_of x)) (sym same_a) ∙ pairs_length inside;
        heads = subst (λ x. Heads (head_of x) (head_of b)) same_a head;
        fills = λ fresh all. fill (entries_of (args_of e)) (subst (λ x. PairEach Heads (arguments_of x) (arguments_of b) (entries_of (args_of e))) same_a (pairs_each inside)) (pairs_different inside)
            (free_places fresh all (pairs_each inside)) (ap (λ v. v ++ (words es ++ rest)) (word_is (args_of e)))
            (fill es (subst (λ c. PairEach Heads c d es) same_c each) (distinct (places_of es) u.1) (also_free (place_of e) taken (places_of es) u.0 f.1) refl others);
      }

  pub step : {goal : Goal} {goals : List Goal} {w : List ℕ} (a : Coordinate) (c : List Coordinate) → goal.left ≡ a ∷ c → Fills Heads (goal ∷ goals) w → Step Heads a c goal goals w
  step {goal} a c e (fill es each u free is others) = step_of goal.taken each (different (places_of es) u) free is others goal.left a c e

  -- and back
  pub stepped : {goal : Goal} {goals : List Goal} {rest : List ℕ} (a : Coordinate) (c : List Coordinate) → goal.left ≡ a ∷ c
      → (k : ℕ) (b : Coordinate) → slice_get goal.others k ≡ Some b → IsFree goal.taken k → length (arguments_of a) ≡ length (arguments_of b) → Heads (head_of a) (head_of b)
      → (fresh : List Bool) → Fills Heads (record { left = arguments_of a; others = arguments_of b; taken = fresh } ∷ record { left = c; others = goal.others; taken = slice_set goal.taken k true } ∷ goals) rest
      → Fills Heads (goal ∷ goals) (k ∷ rest)
  stepped {goal} {goals} {rest} a c e k b stands free as_many heads fresh (fill {rest = after} es each u f is (fill {rest = last} fs each' u' f' is' others)) =
      let one : Entry = entry k (pair_tree es) in
      let here : place_of one ≡ k = entry_place k (pair_tree es) in
      let inner : entries_of (args_of one) ≡ es = ap entries_of (entry_args k (pair_tree es)) ∙ tree_entries es in
      let parts = not_taken k goal.taken (places_of fs) f' in
      fill (one ∷ fs)
      (subst (λ l. PairEach Heads l goal.others (one ∷ fs)) (sym e)
      (pairing.more (ap (slice_get goal.others) here ∙ stands) heads
      (pairs as_many (subst (λ es. AreDistinct (places_of es)) (sym inner) u) (subst (PairEach Heads (arguments_of a) (arguments_of b)) (sym inner) each)) each'))
      (distinct (places_of (one ∷ fs)) (subst (λ k. IsNone k (places_of fs)) (sym here) parts.0, different (places_of fs) u'))
      (subst (IsFree goal.taken) (sym here) free, parts.1)
      (ap₂ ◌∷◌ (sym here) (is ∙ ap₂ ◌++◌ (ap words (sym inner) ∙ sym (word_is (args_of one))) is' ∙ sym (append_assoc (word_of (args_of one)) (words fs) last)))
      others
