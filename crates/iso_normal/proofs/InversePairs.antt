-- Pairings are permuted trees, and their inverses pair the lists the other way round.
use Rattle.std.proofs.Common.{◌≡◌, ℕ, zero, suc, ◌<◌, List, [], ◌∷◌, length, Some, slice_get, refl, sym, ap, ◌∙◌, subst, arith}
use Rattle.std.proofs.lemmas.List.{length-map}
use Rattle.std.proofs.lemmas.Option.{slice_get_within}
use Rattle.type_core.specs.declared.coordinate.Coordinate.{Coordinate}
use Rattle.type_core.specs.declared.ty.Ty.{Ty}
use Rattle.type_core.specs.Coordinates.{arguments_of, head_of}
use Rattle.iso_normal.specs.declared.pair_tree.PairTree.{PairTree}
use Rattle.iso_normal.specs.declared.pair_tree.Entry.{Entry}
use Rattle.iso_normal.specs.Pairings as pairing
use Rattle.iso_normal.specs.Pairings.{PairEach, Pairs, pairs}
use Rattle.iso_normal.specs.PairTrees as tree
use Rattle.iso_normal.specs.PairTrees.{ArePermuted, IsPermutation, IsPermuted, args_of, entries_of, inverse, level, place_of, places_of}
use Rattle.iso_normal.proofs.Inverses.{inverse_from, inverse_length, inverse_permutes}
use Rattle.iso_normal.proofs.Permutations.{all_from, some_injective}
use Rattle.iso_normal.proofs.TreeParts.{entry_args, entry_place}

module _ (Heads : Ty → Ty → Type 0) where
  pub each_length : {c d : List Coordinate} {es : List Entry} → PairEach Heads c d es → length es ≡ length c
  each_length pairing.none = refl
  each_length (pairing.more at head inside others) = ap suc (each_length others)

  each_below : {c d : List Coordinate} {es : List Entry} → PairEach Heads c d es → (j k : ℕ) → slice_get (places_of es) j ≡ Some k → k < length d
  each_below pairing.none j k e = absurd (cc e)
  each_below (pairing.more {b} {d} {e = f} at head inside others) zero k e = subst (λ n. n < length d) (some_injective (place_of f) k e) (slice_get_within d (place_of f) b at)
  each_below (pairing.more at head inside others) (suc j) k e = each_below others j k e

  pub permutes : {c d : List Coordinate} {p : PairTree} → Pairs Heads c d p → IsPermutation (places_of (entries_of p))
  permutes {c} {d} {p} (pairs l distinct each) =
      let many : length d ≡ length (places_of (entries_of p)) = sym l ∙ sym (each_length each) ∙ sym (length-map (entries_of p) place_of) in
      record { below = all_from (λ k. k < length (places_of (entries_of p))) (places_of (entries_of p)) (λ j k e. subst (λ n. k < n) many (each_below each j k e)); distinct = distinct }

  mutual
    pub pairs_permuted : {c d : List Coordinate} {p : PairTree} → Pairs Heads c d p → IsPermuted p
    pairs_permuted (pairs l distinct each) = level (permutes (pairs l distinct each)) (each_permuted each)

    each_permuted : {c d : List Coordinate} {es : List Entry} → PairEach Heads c d es → ArePermuted es
    each_permuted pairing.none = tree.none
    each_permuted (pairing.more at head inside others) = tree.more (pairs_permuted inside) (each_permuted others)

-- the same pairing, where the heads are in a further relation
module _ (Heads Others : Ty → Ty → Type 0) (turn : (h k : Ty) → Heads h k → Others k h) where
  -- the two coordinates that an entry pairs, and the inverse of the pairing of their arguments
  record Paired (c d : List Coordinate) (j : ℕ) (e : Entry) : Type 0 where
    first : Coordinate
    partner : Coordinate
    stands : slice_get c j ≡ Some first
    at : slice_get d (place_of e) ≡ Some partner
    heads : Others (head_of partner) (head_of first)
    inside : Pairs Others (arguments_of partner) (arguments_of first) (inverse (args_of e))

  next : {a : Coordinate} {c d : List Coordinate} {j : ℕ} {e : Entry} → Paired c d j e → Paired (a ∷ c) d (suc j) e
  next p = record { first = p.first; partner = p.partner; stands = p.stands; at = p.at; heads = p.heads; inside = p.inside }

  -- entries, one for each coordinate, whose partners are known place by place
  each_from : (d c : List Coordinate) (es : List Entry) → length es ≡ length d
      → ((k : ℕ) (b : Coordinate) (f : Entry) → slice_get d k ≡ Some b → slice_get es k ≡ Some f
      → (a : Coordinate) × (slice_get c (place_of f) ≡ Some a) × Others (head_of b) (head_of a) × Pairs Others (arguments_of b) (arguments_of a) (args_of f))
      → PairEach Others d c es
  each_from [] c [] l h = pairing.none
  each_from [] c (f ∷ es) l h = absurd (omega (arith, l))
  each_from (b ∷ d) c [] l h = absurd (omega (arith, l))
  each_from (b ∷ d) c (f ∷ es) l h =
      let here = h 0 b f refl refl in
      pairing.more here.1 here.2 here.3 (each_from d c es (omega (arith, l)) (λ k. h (suc k)))

  mutual
    pub inverse_pairs : {c d : List Coordinate} {p : PairTree} → Pairs Heads c d p → Pairs Others d c (inverse p)
    inverse_pairs {c} {d} {p} (pairs l distinct each) =
        let perm = permutes Heads (pairs l distinct each) in
        pairs (sym l) (inverse_permutes p perm).distinct
        (each_from d c (entries_of (inverse p)) (inverse_length p ∙ each_length Heads each ∙ l) (λ k b f there at.
        let from = inverse_from p perm k f at in
        let old = paired_at each from.0 from.1 from.2 in
        let place : place_of f ≡ from.0 = ap place_of from.4 ∙ entry_place from.0 (inverse (args_of from.1)) in
        let args : args_of f ≡ inverse (args_of from.1) = ap args_of from.4 ∙ entry_args from.0 (inverse (args_of from.1)) in
        let same : old.partner ≡ b = some_injective old.partner b (sym old.at ∙ ap (slice_get d) from.3 ∙ there) in (
          old.first,
          ap (slice_get c) place ∙ old.stands,
          subst (λ b. Others (head_of b) (head_of old.first)) same old.heads,
          subst (λ b. Pairs Others (arguments_of b) (arguments_of old.first) (args_of f)) same
              (subst (Pairs Others (arguments_of old.partner) (arguments_of old.first)) (sym args) old.inside),
        )))

    paired_at : {c d : List Coordinate} {es : List Entry} → PairEach Heads c d es → (j : ℕ) (e : Entry) → slice_get es j ≡ Some e → Paired c d j e
    paired_at pairing.none j e is = absurd (cc is)
    paired_at (pairing.more {a} {b} {d} {e = f} at head inside others) zero e is =
        let same = some_injective f e is in
        record {
          first = a;
          partner = b;
          stands = refl;
          at = ap (λ e. slice_get d (place_of e)) (sym same) ∙ at;
          heads = turn (head_of a) (head_of b) head;
          inside = subst (λ e. Pairs Others (arguments_of b) (arguments_of a) (inverse (args_of e))) same (inverse_pairs inside);
        }
    paired_at (pairing.more at head inside others) (suc j) e is = next (paired_at others j e is)
