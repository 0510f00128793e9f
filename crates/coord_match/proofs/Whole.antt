-- The search over two whole lists finds their pairings.
use Rattle.std.proofs.Common.{◌≡◌, ℕ, ◌%◌, List, [], ◌∷◌, ◌++◌, length, replicate, Bool, false, sym, ap, ◌∙◌, subst, append-nil}
use Rattle.type_core.specs.declared.coordinate.Coordinate.{Coordinate}
use Rattle.type_core.specs.declared.ty.Ty.{Ty}
use Rattle.type_core.specs.ValidLibrary.{AreDistinct}
use Rattle.iso_normal.specs.declared.pair_tree.PairTree.{PairTree}
use Rattle.iso_normal.specs.Consistency.{Turns}
use Rattle.iso_normal.specs.PairTrees.{entries_of, pair_tree, places_of, word_of}
use Rattle.iso_normal.specs.Pairings.{PairEach, Pairs, pairs}
use Rattle.iso_normal.proofs.TreeParts.{tree_entries}
use Rattle.coord_match.specs.search.Bindings.{Bindings}
use Rattle.coord_match.specs.declared.search.Task.{Task}
use Rattle.coord_match.specs.search.Tasks.{AllTurn, Filling, Fills, Goal, HasNone, IsBest, Pairing, fill, filled, goal_of, goals_of, words}
use Rattle.coord_match.specs.search.Fingerprints.{fingerprint_sum}
use Rattle.coord_match.proofs.KeptFingerprints.{fingerprint_turned, sum_filled}
use Rattle.coord_match.proofs.Tasked.{goal_is, goals_split}
use Rattle.coord_match.proofs.Filling.{AllFree, free_places, none_is_taken, word_is}

-- one goal: the whole of both lists
abbrev pub whole : List Coordinate → List Coordinate → List Bool → List Goal
whole a b taken = record { left = a; others = b; taken = taken } ∷ []

module _ {Heads : Ty → Ty → Type 0} {a b : List Coordinate} where
  paired_of : {taken : List Bool} {w : List ℕ} → length a ≡ length b → Fills Heads (whole a b taken) w → Pairing a b Heads w
  paired_of same_length (fill entries each different free is filled) = (
    pair_tree entries,
    pairs same_length (subst (λ es. AreDistinct (places_of es)) (sym (tree_entries entries)) different) (subst (PairEach Heads a b) (sym (tree_entries entries)) each),
    is ∙ append-nil (words entries) ∙ ap words (sym (tree_entries entries)) ∙ sym (word_is (pair_tree entries)),
  )

  fills_whole : {p : PairTree} (taken : List Bool) → AllFree taken (length b) → Pairs Heads a b p → Fills Heads (whole a b taken) (word_of p)
  fills_whole {p} taken free (pairs l u each) = fill (entries_of p) each u (free_places taken free each) (word_is p ∙ sym (append-nil (words (entries_of p)))) filled

  fills_of : {w : List ℕ} (taken : List Bool) → AllFree taken (length b) → Pairing a b Heads w → Fills Heads (whole a b taken) w
  fills_of taken free p = subst (Fills Heads (whole a b taken)) (sym p.2) (fills_whole taken free p.1)

  lengths : {p : PairTree} → Pairs Heads a b p → length a ≡ length b
  lengths (pairs l u each) = l

module _ (a b : List Coordinate) where
  abbrev taken : List Bool
  taken = replicate (length b) false

  -- a pairing fills the one goal
  fills_one : (Heads : Ty → Ty → Type 0) {w : List ℕ} {gs : List Goal} → gs ≡ whole a b taken → Pairing a b Heads w → Fills Heads gs w
  fills_one Heads {w} e p = subst (λ gs. Fills Heads gs w) (sym e) (fills_of taken (none_is_taken (length b)) p)

  -- lists of different lengths have no pairing
  pub none_of_lengths : {s : Bindings} → (length a ≡ length b → ⊥) → HasNone s (Pairing a b)
  none_of_lengths d r al w p = d (lengths p.1)

  -- nor have lists with other numbers
  pub none_of_sums : {s : Bindings} → (fingerprint_sum a % 4294967296 ≡ fingerprint_sum b % 4294967296 → ⊥) → HasNone s (Pairing a b)
  none_of_sums d r al w p =
      d (ap (λ n. n % 4294967296) (sum_filled (fingerprint_turned r al.keeps_marks) (fills_of taken (none_is_taken (length b)) p) (lengths p.1)))

  -- what the search says of the one goal holds of pairings
  pub none_paired : {s : Bindings} {gs : List Goal} → gs ≡ whole a b taken → HasNone s (Filling gs) → HasNone s (Pairing a b)
  none_paired e h r al w p = h r al w (fills_one (Turns r) e p)

  pub best_paired : {s now : Bindings} {v w : List ℕ} {gs : List Goal} → gs ≡ whole a b taken → length a ≡ length b → v ≡ w → IsBest s now (Filling gs) w → IsBest s now (Pairing a b) v
  best_paired {s} {now} {v} {w} e same_length f best = subst (IsBest s now (Pairing a b)) (sym f) (record {
    matching = best.matching;
    narrower = best.narrower;
    fills = paired_of same_length (subst (λ gs. Fills (AllTurn now) gs w) e best.fills);
    least = λ r al u p. best.least r al u (fills_one (Turns r) e p);
  })

-- what was handed over are these bindings and these lists
module _ {s t : Bindings} {left right a b : List Coordinate} (e : s ≡ t) (f : left ≡ a) (g : right ≡ b) where
  pub none_handed : HasNone s (Pairing left right) → HasNone t (Pairing a b)
  none_handed h = subst (λ s. HasNone s (Pairing a b)) e (subst (λ a. HasNone s (Pairing a b)) f (subst (λ b. HasNone s (Pairing left b)) g h))

  pub best_handed : {now : Bindings} {w : List ℕ} → IsBest s now (Pairing left right) w → IsBest t now (Pairing a b) w
  best_handed {now} {w} h =
      subst (λ s. IsBest s now (Pairing a b) w) e (subst (λ a. IsBest s now (Pairing a b) w) f (subst (λ b. IsBest s now (Pairing left b) w) g h))

-- one task is one goal
pub goals_of_one : {ts all : List Task} (t : Task) {a b : List Coordinate} {taken : List Bool} → ts ≡ [] → all ≡ ts ++ t ∷ []
    → (goal_of t).left ≡ a → t.second.now ≡ b → t.taken.items ≡ taken → goals_of all ≡ whole a b taken
goals_of_one t e f left others marks = goals_split [] t (f ∙ ap (λ ts. ts ++ t ∷ []) e) ∙ ap (λ g. g ∷ []) (goal_is (goal_of t) left others marks)
