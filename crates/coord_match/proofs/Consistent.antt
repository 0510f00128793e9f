-- The least pairing under renamings that nothing binds is the least consistent one.
use Rattle.std.proofs.Common.{◌≡◌, ℕ, ◌+◌, ◌<◌, true, List, [], length, Option, Some, slice_get, refl, ap, ◌∙◌, subst, arith}
use Rattle.type_core.specs.declared.coordinate.Coordinate.{Coordinate}
use Rattle.type_core.specs.declared.ty.VarId.{VarId}
use Rattle.type_core.specs.Renaming.{Renaming}
use Rattle.type_core.specs.Variables.{occurs}
use Rattle.iso_axioms.proofs.Extended as wide
use Rattle.iso_normal.specs.declared.pair_tree.PairTree.{PairTree}
use Rattle.iso_normal.specs.Consistency.{IsConsistent, Turns, variables_among}
use Rattle.iso_normal.specs.PairTrees.{word_of}
use Rattle.iso_normal.specs.Pairings.{Pairs}
use Rattle.iso_normal.specs.WordOrder.{IsNotAfter}
use Rattle.iso_normal.proofs.CoordinateVariables.{pairs_fix, pairs_over}
use Rattle.coord_match.specs.LeastPairing.{IsLeast}
use Rattle.coord_match.specs.Names.{HaveOneMark, IsFirst, number_bound}
use Rattle.coord_match.specs.search.Bindings.{Allows, Bindings}
use Rattle.coord_match.specs.search.Partners.{partner, partner_of_number}
use Rattle.coord_match.specs.search.Tasks.{AllTurn, HasNone, IsBest, Pairing}
use Rattle.coord_match.proofs.Extending.{IsPartner, after_all, all_below, all_below_next, bound_to, extended, extended_allowed, or_fresh, partner_is, unbound}
use Rattle.coord_match.proofs.Named.{tells}

-- a variable whose number doesn't depend on where fresh numbers begin is bound
settled : (v : VarId) (s : Bindings) (k : ℕ) {o : Option VarId} → IsPartner v s o → or_fresh k v o ≡ or_fresh (k + 1) v o → o ≡ Some (or_fresh k v o)
settled v s k (bound_to b i e) f = refl
settled v s k (unbound g) f = absurd (omega (arith, ap (λ (x : VarId). x.n) f))

-- what all renamings that the bindings allow pair, each of them pairs
pub pairs_under : (r : Renaming) {a b : List Coordinate} {p : PairTree} {now : Bindings} → Allows now r → Pairs (AllTurn now) a b p → Pairs (Turns r) a b p
pairs_under r {a} al each = pairs_over (variables_among a) (λ h k inside turns. turns r al) each (λ v o. o)

module _ (a b : List Coordinate) where
  -- the renaming of a pairing goes on to all variables
  abbrev all_of : Renaming → Renaming
  all_of r = wide.extended r (variables_among a)

  all_allowed : {r : Renaming} {p : PairTree} → IsConsistent r a b p → Allows [] (all_of r)
  all_allowed {r} c = record {
    one_to_one = wide.extended_one_to_one r (variables_among a) c.one_to_one;
    keeps_marks = wide.extended_keeps_marks r (variables_among a) c.keeps_marks;
    obeys = λ b i. elim i [ ];
  }

  -- the word of a consistent pairing is wanted
  is_wanted : {r : Renaming} {p : PairTree} → IsConsistent r a b p → Pairing a b (Turns (all_of r)) (word_of p)
  is_wanted {r} {p} c = (p, pairs_over (variables_among a) (λ h k inside e. wide.renamed_extended r (variables_among a) h inside ∙ e) c.pairs (λ v o. o), refl)

  pub none_of_none : HasNone [] (Pairing a b) → (r : Renaming) (p : PairTree) → IsConsistent r a b p → ⊥
  none_of_none h r p c = h (all_of r) (all_allowed c) (word_of p) (is_wanted c)

  -- the best word is that of the least pairing
  module _ {now : Bindings} {w : List ℕ} (best : IsBest [] now (Pairing a b) w) where
    the_renaming : Renaming
    the_renaming = extended (after_all now) now

    allowed : Allows now (extended (after_all now) now)
    allowed = extended_allowed now best.matching (after_all now) (all_below now)

    allowed_next : Allows now (extended (after_all now + 1) now)
    allowed_next = extended_allowed now best.matching (after_all now + 1) (all_below_next now)

    least : IsLeast the_renaming a b best.fills.0
    unfolding the_renaming
    least = record {
      consistent = record {
        one_to_one = λ v u o q e. allowed.one_to_one v u e;
        keeps_marks = λ v o. allowed.keeps_marks v;
        pairs = pairs_under (extended (after_all now) now) allowed best.fills.1;
      };
      least = λ s q c. subst (λ w. IsNotAfter w (word_of q)) best.fills.2 (best.least (all_of s) (all_allowed c) (word_of q) (is_wanted c));
    }

    -- each variable is bound
    is_bound : (v : VarId) → occurs v (variables_among a) ≡ true → partner v now ≡ Some (the_renaming v)
    unfolding the_renaming
    is_bound v o = settled v now (after_all now) (partner_is v now)
        (pairs_fix (extended (after_all now) now) (extended (after_all now + 1) now) (pairs_under _ allowed best.fills.1) (pairs_under _ allowed_next best.fills.1) v o)

    -- and so the search gives what is to be first
    pub is_first : {names : List (Option VarId)} → HaveOneMark (variables_among a) → length names ≡ number_bound (variables_among a)
        → ((n : ℕ) → n < length names → slice_get names n ≡ Some (partner_of_number n (variables_among a) now)) → IsFirst a b w names
    is_first mark long each = (the_renaming, best.fills.0, least, best.fills.2, tells now the_renaming (variables_among a) long each mark is_bound)
