-- Moving back along a pairing is moving along its inverse.
use Rattle.std.proofs.Common.{◌≡◌, ℕ, zero, suc, ◌+◌, ◌<◌, List, [], ◌∷◌, length, get_or, Some, slice_get, refl, sym, ap, ap₂, ◌∙◌, subst, subst₂, arith}
use Rattle.std.proofs.lemmas.List.{length-map}
use Rattle.std.proofs.lemmas.Option.{slice_get_within}
use Rattle.type_core.specs.declared.coordinate.Coordinate.{Coordinate}
use Rattle.type_core.specs.Coordinates.{arguments_of}
use Rattle.iso_normal.specs.declared.pair_tree.PairTree.{PairTree}
use Rattle.iso_normal.specs.declared.pair_tree.Entry.{Entry}
use Rattle.iso_normal.specs.Pairings.{PairEach, Pairs, pairs, none, more}
use Rattle.iso_normal.specs.PairTrees.{IsPermutation, args_of, entries_of, entry, inverse, place_of, places_of}
use Rattle.iso_normal.proofs.Distinct.{different}
use Rattle.iso_normal.proofs.InversePairs.{each_length, permutes}
use Rattle.iso_normal.proofs.Inverses.{inverse_at, inverse_length, inverse_permutes, of_map}
use Rattle.iso_normal.proofs.Permutations.{some_injective, stands}
use Rattle.iso_normal.proofs.TreeParts.{entry_args, entry_place}
use Rattle.conv_terms.specs.declared.term.Term.{Term}
use Rattle.conv_terms.specs.Shifting.{shifted}
use Rattle.conv_terms.proofs.Forms.{none_not}
use Rattle.conv_plain.specs.Functions.{abstractions, applied, variables}
use Rattle.conv_plain.specs.CoordinateTypes.{coordinate_type, types_of}
use Rattle.conv_plain.specs.Moving.{Move, carried, moved, moved_back, no_term}
use Rattle.conv_plain.proofs.Moves.{moved_at, moved_back_at, moved_back_length, moved_length}
use Rattle.conv_plain.proofs.Undoing.{found}

-- two moves make the same of as many terms as these
abbrev pub Agree : List Coordinate → Move → Move → Type 0
Agree cs go to = (n : ℕ) (es : List Term) → length es ≡ length cs → go n es ≡ to n es

variables_length : (n count : ℕ) → length (variables n count) ≡ count
variables_length n zero = refl
variables_length n (suc count) = ap suc (variables_length (n + 1) count)

pub carried_agree : (cs : List Coordinate) (go to : Move) → Agree cs go to → (n : ℕ) (e : Term) → carried (types_of cs) go n e ≡ carried (types_of cs) to n e
carried_agree cs go to h n e =
    ap (λ us. abstractions (types_of cs) (applied (shifted n (length (types_of cs)) e) us)) (h (n + length (types_of cs)) _ (variables_length n (length (types_of cs)) ∙ length-map cs coordinate_type))

same_lists : {A : Type 0} (xs ys : List A) → length xs ≡ length ys → ((k : ℕ) (x : A) → slice_get xs k ≡ Some x → slice_get ys k ≡ Some x) → xs ≡ ys
same_lists [] [] l h = refl
same_lists [] (y ∷ ys) l h = let no : ⊥ = omega (arith, l) in absurd no
same_lists (x ∷ xs) [] l h = let no : ⊥ = omega (arith, l) in absurd no
same_lists (x ∷ xs) (y ∷ ys) l h = let less : length xs ≡ length ys = omega (arith, l) in ap₂ ◌∷◌ (sym (some_injective y x (h 0 x refl))) (same_lists xs ys less (λ k. h (suc k)))

-- the two directions, along a pairing and along its inverse
record Turned (p : PairTree) (cs ds : List Coordinate) : Type 0 where
  forth : Agree cs (moved p cs ds) (moved_back (inverse p) ds cs)
  back : Agree ds (moved_back p cs ds) (moved (inverse p) ds cs)

record TurnedEntry (cs ds : List Coordinate) (j : ℕ) (e : Entry) : Type 0 where
  c : Coordinate
  d : Coordinate
  there : slice_get cs j ≡ Some c
  here : slice_get ds (place_of e) ≡ Some d
  turned : Turned (args_of e) (arguments_of c) (arguments_of d)

module _ (p : PairTree) (cs ds : List Coordinate) (permutation : IsPermutation (places_of (entries_of p))) (many : length (entries_of p) ≡ length cs) (as_many : length cs ≡ length ds)
    (each : (j : ℕ) (e : Entry) → slice_get (entries_of p) j ≡ Some e → TurnedEntry cs ds j e) where
  other : PairTree
  other = inverse p

  -- the entry of the inverse at the place of e
  at_inverse : (j : ℕ) (e : Entry) → slice_get (entries_of p) j ≡ Some e → slice_get (entries_of (inverse p)) (place_of e) ≡ Some (entry j (inverse (args_of e)))
  at_inverse = inverse_at p permutation

  entry_for : (k : ℕ) → k < length ds → (j : ℕ) × (e : Entry) × (slice_get (entries_of p) j ≡ Some e) × (place_of e ≡ k)
  entry_for k below =
      let (j, stand) = stands (places_of (entries_of p)) permutation k (subst (λ n. k < n) (sym as_many ∙ sym many ∙ sym (length-map (entries_of p) place_of)) below) in
      let (e, at, place) = of_map place_of (entries_of p) j k stand in
      (j, e, at, place)

  forth_agrees : Agree cs (moved p cs ds) (moved_back (inverse p) ds cs)
  forth_agrees n es l = same_lists _ _ lengths at_place
    where
      lengths : length (moved p cs ds n es) ≡ length (moved_back (inverse p) ds cs n es)
      lengths = moved_length p cs ds n es ∙ sym (moved_back_length (inverse p) ds cs n es (inverse_length p ∙ many ∙ as_many))

      at_place : (k : ℕ) (t : Term) → slice_get (moved p cs ds n es) k ≡ Some t → slice_get (moved_back (inverse p) ds cs n es) k ≡ Some t
      at_place k t is =
          let (j, e, at, place) = entry_for k (subst (λ n. k < n) (moved_length p cs ds n es) (slice_get_within _ k t is)) in
          let m = each j e at in
          let here : slice_get ds k ≡ Some m.d = subst (λ k. slice_get ds k ≡ Some m.d) place m.here in
          let first = moved_at p cs ds es j k e m.c m.d n (different (places_of (entries_of p)) permutation.distinct) at place m.there here (subst (λ n. j < n) (sym l) (slice_get_within cs j m.c m.there)) in
          let f : Entry = entry j (inverse (args_of e)) in
          let second = moved_back_at (inverse p) ds cs es k j f m.d m.c n (subst (λ k. slice_get (entries_of (inverse p)) k ≡ Some f) place (at_inverse j e at)) (entry_place j (inverse (args_of e))) here m.there in
          second ∙ ap (λ q. Some (carried (types_of (arguments_of m.d)) (moved q (arguments_of m.d) (arguments_of m.c)) n (get_or es j no_term))) (entry_args j (inverse (args_of e)))
          ∙ ap Some (sym (carried_agree (arguments_of m.d) _ _ m.turned.back n (get_or es j no_term))) ∙ sym first ∙ is

  back_agrees : Agree ds (moved_back p cs ds) (moved (inverse p) ds cs)
  back_agrees n es l = same_lists _ _ lengths at_place
    where
      lengths : length (moved_back p cs ds n es) ≡ length (moved (inverse p) ds cs n es)
      lengths = moved_back_length p cs ds n es many ∙ sym (moved_length (inverse p) ds cs n es)

      at_place : (j : ℕ) (t : Term) → slice_get (moved_back p cs ds n es) j ≡ Some t → slice_get (moved (inverse p) ds cs n es) j ≡ Some t
      at_place j t is =
          let (e, at) = found (entries_of p) j (subst (λ n. j < n) (moved_back_length p cs ds n es many ∙ sym many) (slice_get_within _ j t is)) in
          let m = each j e at in
          let first = moved_back_at p cs ds es j (place_of e) e m.c m.d n at refl m.there m.here in
          let f : Entry = entry j (inverse (args_of e)) in
          let second = moved_at (inverse p) ds cs es (place_of e) j f m.d m.c n (different (places_of (entries_of (inverse p))) (inverse_permutes p permutation).distinct) (at_inverse j e at) (entry_place j (inverse (args_of e))) m.here m.there (subst (λ n. place_of e < n) (sym l) (slice_get_within ds (place_of e) m.d m.here)) in
          second ∙ ap (λ q. Some (carried (types_of (arguments_of m.c)) (moved_back q (arguments_of m.d) (arguments_of m.c)) n (get_or es (place_of e) no_term))) (entry_args j (inverse (args_of e)))
          ∙ ap Some (sym (carried_agree (arguments_of m.c) _ _ m.turned.forth n (get_or es (place_of e) no_term))) ∙ sym first ∙ is

  level_turned : Turned p cs ds
  level_turned = record { forth = forth_agrees; back = back_agrees }

turned_here : {a b : Coordinate} {cs ds : List Coordinate} {f : Entry} → slice_get ds (place_of f) ≡ Some b → Turned (args_of f) (arguments_of a) (arguments_of b) → TurnedEntry (a ∷ cs) ds 0 f
turned_here {a = a} {b = b} at turned = record { c = a; d = b; there = refl; here = at; turned = turned }

turned_later : {a : Coordinate} {cs ds : List Coordinate} {j : ℕ} {e : Entry} → TurnedEntry cs ds j e → TurnedEntry (a ∷ cs) ds (suc j) e
turned_later m = record { c = m.c; d = m.d; there = m.there; here = m.here; turned = m.turned }

mutual
  turned : {p : PairTree} {cs ds : List Coordinate} → Pairs ◌≡◌ cs ds p → Turned p cs ds
  turned {p = p} {cs = cs} {ds = ds} (pairs l distinct each) = level_turned p cs ds (permutes ◌≡◌ (pairs l distinct each)) (each_length ◌≡◌ each) l (λ j e at. turned_entry each j e at)

  turned_entry : {cs ds : List Coordinate} {es : List Entry} → PairEach ◌≡◌ cs ds es → (j : ℕ) (e : Entry) → slice_get es j ≡ Some e → TurnedEntry cs ds j e
  turned_entry none j e at = absurd (none_not e at)
  turned_entry (more {a} {b} {c = cs} {d = ds} {e = f} to heads inside others) zero e at = subst (λ e. TurnedEntry (a ∷ cs) ds 0 e) (some_injective f e at) (turned_here {cs = cs} to (turned inside))
  turned_entry (more to heads inside others) (suc j) e at = turned_later (turned_entry others j e at)

pub moved_by_the_inverse : {p : PairTree} {cs ds : List Coordinate} → Pairs ◌≡◌ cs ds p → Agree ds (moved_back p cs ds) (moved (inverse p) ds cs)
moved_by_the_inverse k = (turned k).back

-- so it is at each entry
pub entry_turned : {p : PairTree} {cs ds : List Coordinate} → Pairs ◌≡◌ cs ds p → (i : ℕ) (e : Entry) (c d : Coordinate) → slice_get (entries_of p) i ≡ Some e → slice_get cs i ≡ Some c → slice_get ds (place_of e) ≡ Some d → Agree (arguments_of d) (moved_back (args_of e) (arguments_of c) (arguments_of d)) (moved (inverse (args_of e)) (arguments_of d) (arguments_of c))
entry_turned (pairs l distinct each) i e c d at there here =
    let m = turned_entry each i e at in
    subst₂ (λ c d. Agree (arguments_of d) (moved_back (args_of e) (arguments_of c) (arguments_of d)) (moved (inverse (args_of e)) (arguments_of d) (arguments_of c)))
    (some_injective m.c c (sym m.there ∙ there)) (some_injective m.d d (sym m.here ∙ here)) m.turned.back
