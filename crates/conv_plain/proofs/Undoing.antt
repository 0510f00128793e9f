-- Moving along a pairing keeps conversion, and moving there and back undo each other.
use Rattle.std.proofs.Common.{◌≡◌, ℕ, zero, suc, ◌<◌, ◌&&◌, List, [], ◌∷◌, length, get_or, Some, slice_get, refl, sym, ap, ap₂, ◌∙◌, subst, subst₂, arith}
use Rattle.std.proofs.lemmas.List.{length-map}
use Rattle.std.proofs.lemmas.Option.{slice_get-get_or, slice_get_within}
use Rattle.type_core.specs.declared.ty.Ty.{Ty}
use Rattle.type_core.specs.declared.coordinate.Coordinate.{Coordinate}
use Rattle.type_core.specs.Coordinates.{arguments_of, head_of}
use Rattle.type_core.specs.Types.{IsType}
use Rattle.type_core.proofs.TypeTests.{all_are_types, each_is_type, sides_are_types}
use Rattle.iso_normal.specs.declared.pair_tree.PairTree.{PairTree}
use Rattle.iso_normal.specs.declared.pair_tree.Entry.{Entry}
use Rattle.iso_normal.specs.Pairings.{PairEach, Pairs, pairs, none, more}
use Rattle.iso_normal.specs.PairTrees.{IsPermutation, args_of, entries_of, place_of, places_of}
use Rattle.iso_normal.proofs.Distinct.{different}
use Rattle.iso_normal.proofs.InversePairs.{each_length, pairs_permuted, permutes}
use Rattle.iso_normal.proofs.Inverses.{at_map, of_map}
use Rattle.iso_normal.proofs.Permutations.{some_injective, stands}
use Rattle.conv_terms.specs.declared.term.Term.{Term}
use Rattle.conv_typing.specs.Conversion.{Converts, ConvertEach}
use Rattle.conv_terms.proofs.Forms.{none_not}
use Rattle.conv_typing.proofs.Kept.{converts_typed}
use Rattle.conv_plain.specs.Functions.{arrows}
use Rattle.conv_plain.specs.CoordinateTypes.{coordinate_type, types_of}
use Rattle.conv_plain.specs.Moving.{carried, moved, moved_back, no_term}
use Rattle.conv_plain.proofs.Equations.{type_opened}
use Rattle.conv_plain.proofs.Lists.{AreTypes, length_each}
use Rattle.conv_plain.proofs.Ways.{Commutes, KeepsConversion, Undoes, Way}
use Rattle.conv_plain.proofs.Carried.{carried_converts, carried_undone}
use Rattle.conv_plain.proofs.Moves.{get_or_is, moved_at, moved_back_at, moved_back_length, moved_length, moves_commute}

-- what stands below the length
pub found : {A : Type 0} (xs : List A) (j : ℕ) → j < length xs → (x : A) × (slice_get xs j ≡ Some x)
found [] j l = let no : ⊥ = omega (arith, l) in absurd no
found (x ∷ xs) zero l = (x, refl)
found (x ∷ xs) (suc j) l = let less : j < length xs = omega (arith, l) in found xs j less

-- the types of arguments
arguments_are_types : (as' : List Ty) (b : Ty) → IsType (arrows as' b) → AreTypes as'
arguments_are_types [] b k = refl
arguments_are_types (a ∷ as') b k =
    let both = sides_are_types a (arrows as' b) k in
    both_true both.0 (arguments_are_types as' b both.1)
  where
    both_true : IsType a → AreTypes as' → AreTypes (a ∷ as')
    both_true k l = ap₂ ◌&&◌ k l

arguments_typed : (c : Coordinate) → IsType (coordinate_type c) → AreTypes (types_of (arguments_of c))
arguments_typed c k = arguments_are_types (types_of (arguments_of c)) (head_of c) (subst IsType (type_opened c) k)

-- lists that convert, place by place
point_converts : {ctx as' : List Ty} {ts us : List Term} → ConvertEach ctx as' ts us → (k : ℕ) (a : Ty) → slice_get as' k ≡ Some a → Converts ctx a (get_or ts k no_term) (get_or us k no_term)
point_converts ConvertEach.none k a at = absurd (none_not a at)
point_converts {ctx = ctx} (ConvertEach.more {a = b} {t = t} {u = u} l ls) zero a at = subst (λ a. Converts ctx a t u) (some_injective b a at) l
point_converts (ConvertEach.more l ls) (suc k) a at = point_converts ls k a at

abbrev ConvertsAt : List Ty → Ty → List Term → List Term → ℕ → Type 0
ConvertsAt ctx a ts us k = (t : Term) × (u : Term) × (slice_get ts k ≡ Some t) × (slice_get us k ≡ Some u) × Converts ctx a t u

from_points : (ctx as' : List Ty) (ts us : List Term) → length ts ≡ length as' → length us ≡ length as' → ((k : ℕ) (a : Ty) → slice_get as' k ≡ Some a → ConvertsAt ctx a ts us k) → ConvertEach ctx as' ts us
from_points ctx [] [] [] p q h = ConvertEach.none
from_points ctx [] (t ∷ ts) us p q h = let no : ⊥ = omega (arith, p) in absurd no
from_points ctx [] [] (u ∷ us) p q h = let no : ⊥ = omega (arith, q) in absurd no
from_points ctx (a ∷ as') [] us p q h = let no : ⊥ = omega (arith, p) in absurd no
from_points ctx (a ∷ as') (t ∷ ts) [] p q h = let no : ⊥ = omega (arith, q) in absurd no
from_points ctx (a ∷ as') (t ∷ ts) (u ∷ us) p q h =
    let one : length ts ≡ length as' = omega (arith, p) in
    let two : length us ≡ length as' = omega (arith, q) in
    let (v, w, at, to, k) = h zero a refl in
    ConvertEach.more (subst₂ (Converts ctx a) (sym (some_injective t v at)) (sym (some_injective u w to)) k) (from_points ctx as' ts us one two (λ k b at. h (suc k) b at))

-- what is shown of a pairing of cs with ds
pub record Facts (p : PairTree) (cs ds : List Coordinate) : Type 0 where
  pub forth : KeepsConversion (types_of cs) (types_of ds) (moved p cs ds)
  pub back : KeepsConversion (types_of ds) (types_of cs) (moved_back p cs ds)
  pub commute : Commutes (moved p cs ds) × Commutes (moved_back p cs ds)
  pub undone : Undoes (types_of cs) (moved p cs ds) (moved_back p cs ds)
  pub redone : Undoes (types_of ds) (moved_back p cs ds) (moved p cs ds)

abbrev pub forth_way : {p : PairTree} {cs ds : List Coordinate} → Facts p cs ds → Way (types_of cs) (types_of ds)
forth_way {p = p} {cs = cs} {ds = ds} f = record { go = moved p cs ds; converts = f.forth; commutes = f.commute.0 }

abbrev pub back_way : {p : PairTree} {cs ds : List Coordinate} → Facts p cs ds → Way (types_of ds) (types_of cs)
back_way {p = p} {cs = cs} {ds = ds} f = record { go = moved_back p cs ds; converts = f.back; commutes = f.commute.1 }

-- what is shown of an entry, the j-th: the coordinates that it pairs
record Paired (cs ds : List Coordinate) (j : ℕ) (e : Entry) : Type 0 where
  c : Coordinate
  d : Coordinate
  there : slice_get cs j ≡ Some c
  here : slice_get ds (place_of e) ≡ Some d
  heads : head_of c ≡ head_of d
  fine : AreTypes (types_of (arguments_of c))
  ok : AreTypes (types_of (arguments_of d))
  facts : Facts (args_of e) (arguments_of c) (arguments_of d)

module _ (p : PairTree) (cs ds : List Coordinate) (permutation : IsPermutation (places_of (entries_of p))) (many : length (entries_of p) ≡ length cs) (as_many : length cs ≡ length ds)
    (each : (j : ℕ) (e : Entry) → slice_get (entries_of p) j ≡ Some e → Paired cs ds j e) (commute : Commutes (moved p cs ds) × Commutes (moved_back p cs ds)) where
  -- entry j pairs c with d, which is at place k
  record At (j k : ℕ) (c d : Coordinate) : Type 0 where
    e : Entry
    at : slice_get (entries_of p) j ≡ Some e
    place : place_of e ≡ k
    there : slice_get cs j ≡ Some c
    here : slice_get ds k ≡ Some d
    heads : head_of c ≡ head_of d
    fine : AreTypes (types_of (arguments_of c))
    ok : AreTypes (types_of (arguments_of d))
    facts : Facts (args_of e) (arguments_of c) (arguments_of d)

  by_entry : (j : ℕ) (e : Entry) → slice_get (entries_of p) j ≡ Some e → (c : Coordinate) × (d : Coordinate) × At j (place_of e) c d
  by_entry j e at =
      let m = each j e at in
      (m.c, m.d, record { e = e; at = at; place = refl; there = m.there; here = m.here; heads = m.heads; fine = m.fine; ok = m.ok; facts = m.facts })

  by_first : (j : ℕ) (c : Coordinate) → slice_get cs j ≡ Some c → (k : ℕ) × (d : Coordinate) × At j k c d
  by_first j c is =
      let (e, at) = found (entries_of p) j (subst (λ n. j < n) (sym many) (slice_get_within cs j c is)) in
      let (b, d, m) = by_entry j e at in
      (place_of e, d, subst (λ c. At j (place_of e) c d) (some_injective b c (sym m.there ∙ is)) m)

  by_second : (k : ℕ) (d : Coordinate) → slice_get ds k ≡ Some d → (j : ℕ) × (c : Coordinate) × At j k c d
  by_second k d is =
      let below : k < length (places_of (entries_of p)) = subst (λ n. k < n) (sym as_many ∙ sym many ∙ sym (length-map (entries_of p) place_of)) (slice_get_within ds k d is) in
      let (j, stand) = stands (places_of (entries_of p)) permutation k below in
      let (e, at, place) = of_map place_of (entries_of p) j k stand in
      let (c, b, m) = by_entry j e at in
      let n : At j k c b = subst (λ k. At j k c b) place m in
      (j, c, subst (λ d. At j k c d) (some_injective b d (sym n.here ∙ is)) n)

  module _ (ctx : List Ty) where
    abbrev n : ℕ
    n = length ctx

    -- a term of the type of c, and of that of d
    abbrev type_at : List Coordinate → Coordinate → Ty
    type_at arguments c = arrows (types_of arguments) (head_of c)

    moved_term : (j k : ℕ) (c d : Coordinate) (m : At j k c d) (es : List Term) → length es ≡ length cs → slice_get (moved p cs ds n es) k ≡ Some (carried (types_of (arguments_of d)) (moved_back (args_of m.e) (arguments_of c) (arguments_of d)) n (get_or es j no_term))
    moved_term j k c d m es l = moved_at p cs ds es j k m.e c d n (different (places_of (entries_of p)) permutation.distinct) m.at m.place m.there m.here (subst (λ n. j < n) (sym l) (slice_get_within cs j c m.there))

    back_term : (j k : ℕ) (c d : Coordinate) (m : At j k c d) (fs : List Term) → slice_get (moved_back p cs ds n fs) j ≡ Some (carried (types_of (arguments_of c)) (moved (args_of m.e) (arguments_of c) (arguments_of d)) n (get_or fs k no_term))
    back_term j k c d m fs = moved_back_at p cs ds fs j k m.e c d n m.at m.place m.there m.here

    -- the types of two coordinates that are paired, with one head
    first_type : (j k : ℕ) (c d : Coordinate) → At j k c d → coordinate_type c ≡ arrows (types_of (arguments_of c)) (head_of c)
    first_type j k c d m = type_opened c

    second_type : (j k : ℕ) (c d : Coordinate) → At j k c d → coordinate_type d ≡ arrows (types_of (arguments_of d)) (head_of c)
    second_type j k c d m = type_opened d ∙ ap (arrows (types_of (arguments_of d))) (sym m.heads)

    type_of_first : (j : ℕ) (c : Coordinate) → slice_get cs j ≡ Some c → slice_get (types_of cs) j ≡ Some (coordinate_type c)
    type_of_first j c is = at_map coordinate_type cs j c is

    type_of_second : (k : ℕ) (d : Coordinate) → slice_get ds k ≡ Some d → slice_get (types_of ds) k ≡ Some (coordinate_type d)
    type_of_second k d is = at_map coordinate_type ds k d is

    retyped : {a b : Ty} {t u : Term} → a ≡ b → Converts ctx a t u → Converts ctx b t u
    retyped {t = t} {u = u} e k = subst (λ a. Converts ctx a t u) e k

    forth_at : (es fs : List Term) → ConvertEach ctx (types_of cs) es fs → (k : ℕ) (a : Ty) → slice_get (types_of ds) k ≡ Some a → ConvertsAt ctx a (moved p cs ds n es) (moved p cs ds n fs) k
    forth_at es fs l k a at =
        let (d, is, same) = of_map coordinate_type ds k a at in
        let (j, c, m) = by_second k d is in
        let lengths = length_each l in
        let many_types : length (types_of cs) ≡ length cs = length-map cs coordinate_type in
        let point = subst (λ t. Converts ctx t (get_or es j no_term) (get_or fs j no_term)) (first_type j k c d m) (point_converts l j (coordinate_type c) (type_of_first j c m.there)) in (
          _,
          _,
          moved_term j k c d m es (lengths.0 ∙ many_types),
          moved_term j k c d m fs (lengths.1 ∙ many_types),
          retyped (sym (second_type j k c d m) ∙ same) (carried_converts (types_of (arguments_of c)) (types_of (arguments_of d)) m.ok (back_way m.facts) (head_of c) ctx (get_or es j no_term) (get_or fs j no_term) point),
        )

    back_at : (es fs : List Term) → ConvertEach ctx (types_of ds) es fs → (j : ℕ) (a : Ty) → slice_get (types_of cs) j ≡ Some a → ConvertsAt ctx a (moved_back p cs ds n es) (moved_back p cs ds n fs) j
    back_at es fs l j a at =
        let (c, is, same) = of_map coordinate_type cs j a at in
        let (k, d, m) = by_first j c is in
        let point = subst (λ t. Converts ctx t (get_or es k no_term) (get_or fs k no_term)) (second_type j k c d m) (point_converts l k (coordinate_type d) (type_of_second k d m.here)) in (
          _,
          _,
          back_term j k c d m es,
          back_term j k c d m fs,
          retyped (sym (first_type j k c d m) ∙ same) (carried_converts (types_of (arguments_of d)) (types_of (arguments_of c)) m.fine (forth_way m.facts) (head_of c) ctx (get_or es k no_term) (get_or fs k no_term) point),
        )

    undone_at : (es : List Term) → ConvertEach ctx (types_of cs) es es → (j : ℕ) (a : Ty) → slice_get (types_of cs) j ≡ Some a → ConvertsAt ctx a (moved_back p cs ds n (moved p cs ds n es)) es j
    undone_at es l j a at =
        let (c, is, same) = of_map coordinate_type cs j a at in
        let (k, d, m) = by_first j c is in
        let long : length es ≡ length cs = (length_each l).0 ∙ length-map cs coordinate_type in
        let point = subst (λ t. Converts ctx t (get_or es j no_term) (get_or es j no_term)) (first_type j k c d m) (point_converts l j (coordinate_type c) (type_of_first j c m.there)) in
        let there = get_or_is (moved p cs ds n es) k _ no_term (moved_term j k c d m es long) in (
          _,
          _,
          back_term j k c d m (moved p cs ds n es) ∙ ap (λ t. Some (carried (types_of (arguments_of c)) (moved (args_of m.e) (arguments_of c) (arguments_of d)) n t)) there,
          slice_get-get_or es j no_term (subst (λ n. j < n) (sym long) (slice_get_within cs j c is)),
          retyped (sym (first_type j k c d m) ∙ same)
              (carried_undone (types_of (arguments_of c)) (types_of (arguments_of d)) m.fine m.ok (back_way m.facts) (forth_way m.facts) (head_of c) m.facts.undone ctx (get_or es j no_term) (converts_typed point).0),
        )

    redone_at : (fs : List Term) → ConvertEach ctx (types_of ds) fs fs → (k : ℕ) (a : Ty) → slice_get (types_of ds) k ≡ Some a → ConvertsAt ctx a (moved p cs ds n (moved_back p cs ds n fs)) fs k
    redone_at fs l k a at =
        let (d, is, same) = of_map coordinate_type ds k a at in
        let (j, c, m) = by_second k d is in
        let long : length fs ≡ length ds = (length_each l).0 ∙ length-map ds coordinate_type in
        let point = subst (λ t. Converts ctx t (get_or fs k no_term) (get_or fs k no_term)) (second_type j k c d m) (point_converts l k (coordinate_type d) (type_of_second k d m.here)) in
        let there = get_or_is (moved_back p cs ds n fs) j _ no_term (back_term j k c d m fs) in (
          _,
          _,
          moved_term j k c d m (moved_back p cs ds n fs) (moved_back_length p cs ds n fs many) ∙ ap (λ t. Some (carried (types_of (arguments_of d)) (moved_back (args_of m.e) (arguments_of c) (arguments_of d)) n t)) there,
          slice_get-get_or fs k no_term (subst (λ n. k < n) (sym long) (slice_get_within ds k d is)),
          retyped (sym (second_type j k c d m) ∙ same)
              (carried_undone (types_of (arguments_of d)) (types_of (arguments_of c)) m.ok m.fine (forth_way m.facts) (back_way m.facts) (head_of c) m.facts.redone ctx (get_or fs k no_term) (converts_typed point).0),
        )

  first_length : (m : ℕ) (fs : List Term) → length (moved_back p cs ds m fs) ≡ length (types_of cs)
  first_length m fs = moved_back_length p cs ds m fs many ∙ sym (length-map cs coordinate_type)

  second_length : (m : ℕ) (es : List Term) → length (moved p cs ds m es) ≡ length (types_of ds)
  second_length m es = moved_length p cs ds m es ∙ sym (length-map ds coordinate_type)

  level_facts : Facts p cs ds
  level_facts = record {
    forth = λ ctx es fs l. from_points ctx (types_of ds) _ _ (second_length (length ctx) es) (second_length (length ctx) fs) (forth_at ctx es fs l);
    back = λ ctx es fs l. from_points ctx (types_of cs) _ _ (first_length (length ctx) es) (first_length (length ctx) fs) (back_at ctx es fs l);
    commute = commute;
    undone = λ ctx es l. from_points ctx (types_of cs) _ es (first_length (length ctx) _) (length_each l).0 (undone_at ctx es l);
    redone = λ ctx fs l. from_points ctx (types_of ds) _ fs (second_length (length ctx) _) (length_each l).0 (redone_at ctx fs l);
  }

-- the entry at the front, and those after it
entry_here : {a b : Coordinate} {cs ds : List Coordinate} {f : Entry} → slice_get ds (place_of f) ≡ Some b → head_of a ≡ head_of b → AreTypes (types_of (arguments_of a)) → AreTypes (types_of (arguments_of b)) → Facts (args_of f) (arguments_of a) (arguments_of b) → Paired (a ∷ cs) ds 0 f
entry_here {a = a} {b = b} at heads fine ok facts = record { c = a; d = b; there = refl; here = at; heads = heads; fine = fine; ok = ok; facts = facts }

entry_later : {a : Coordinate} {cs ds : List Coordinate} {j : ℕ} {e : Entry} → Paired cs ds j e → Paired (a ∷ cs) ds (suc j) e
entry_later m = record { c = m.c; d = m.d; there = m.there; here = m.here; heads = m.heads; fine = m.fine; ok = m.ok; facts = m.facts }

mutual
  pub pairing_facts : {p : PairTree} {cs ds : List Coordinate} → Pairs ◌≡◌ cs ds p → AreTypes (types_of cs) → AreTypes (types_of ds) → Facts p cs ds
  pairing_facts {p = p} {cs = cs} {ds = ds} (pairs l distinct each) fine ok =
      level_facts p cs ds (permutes ◌≡◌ (pairs l distinct each)) (each_length ◌≡◌ each) l (λ j e at. entry_facts each fine ok j e at) (moves_commute (pairs_permuted ◌≡◌ (pairs l distinct each)) cs ds)

  entry_facts : {cs ds : List Coordinate} {es : List Entry} → PairEach ◌≡◌ cs ds es → AreTypes (types_of cs) → AreTypes (types_of ds) → (j : ℕ) (e : Entry) → slice_get es j ≡ Some e → Paired cs ds j e
  entry_facts none fine ok j e at = absurd (none_not e at)
  entry_facts (more {a} {b} {c = cs} {d = ds} {e = f} to heads inside others) fine ok zero e at =
      let a_fine = arguments_typed a (all_are_types (coordinate_type a) _ fine).0 in
      let b_fine = arguments_typed b (each_is_type (types_of ds) (place_of f) (coordinate_type b) ok (at_map coordinate_type ds (place_of f) b to)) in
      subst (λ e. Paired (a ∷ cs) ds 0 e) (some_injective f e at) (entry_here {cs = cs} to heads a_fine b_fine (pairing_facts inside a_fine b_fine))
  entry_facts (more {a} to heads inside others) fine ok (suc j) e at = entry_later (entry_facts others (all_are_types (coordinate_type a) _ fine).1 ok j e at)
