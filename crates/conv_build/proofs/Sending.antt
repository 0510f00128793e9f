-- What a pairing moves acts as its holes, there and back.
use Rattle.std.proofs.Common.{◌≡◌, ℕ, zero, suc, ◌+◌, ◌<◌, if◌then◌else◌, List, [], ◌∷◌, map, length, Some, slice_get, refl, sym, ap, ap₂, ◌∙◌, subst, arith}
use Rattle.std.proofs.lemmas.Bool.{eq-eqb}
use Rattle.std.proofs.lemmas.List.{length-map}
use Rattle.std.proofs.lemmas.Option.{slice_get_within}
use Rattle.type_core.specs.declared.coordinate.Coordinate.{Coordinate}
use Rattle.type_core.specs.Coordinates.{arguments_of}
use Rattle.iso_normal.specs.declared.pair_tree.PairTree.{PairTree}
use Rattle.iso_normal.specs.declared.pair_tree.Entry.{Entry}
use Rattle.iso_normal.specs.declared.pair_tree.Entry.TheFolds.{fold-Entry, fold_out-PairTree, fold_out-Entry}
use Rattle.iso_normal.specs.Pairings.{PairEach, Pairs, pairs, none, more}
use Rattle.iso_normal.specs.PairTrees.{IsPermutation, args_of, entries_of, place_of, places_of}
use Rattle.iso_normal.proofs.Distinct.{AreDifferent, different}
use Rattle.iso_normal.proofs.InversePairs.{each_length, pairs_permuted, permutes}
use Rattle.iso_normal.proofs.Inverses.{at_map, of_map}
use Rattle.iso_normal.proofs.Permutations.{some_injective, stands}
use Rattle.conv_terms.specs.declared.term.Term.{Term}
use Rattle.conv_terms.specs.declared.term.Term.TheVariants as term
use Rattle.conv_terms.specs.Shifting.{shifted}
use Rattle.conv_terms.proofs.Equations.{shifted_var}
use Rattle.conv_terms.proofs.Forms.{none_not}
use Rattle.conv_terms.proofs.Moving.{raised_low}
use Rattle.conv_plain.specs.Functions.{applied}
use Rattle.conv_plain.specs.CoordinateTypes.{coordinate_type, types_of}
use Rattle.conv_plain.specs.SplitJoin.{split}
use Rattle.conv_plain.specs.Moving.{carried, moved, moved_back, no_term}
use Rattle.conv_plain.proofs.Moves.{get_or_is, is_other, moved_at, moved_back_at, moved_back_length, moved_length, moves_commute, none_later}
use Rattle.conv_plain.proofs.Natural.{split_shifted}
use Rattle.conv_plain.proofs.Undoing.{found}
use Rattle.conv_plain.proofs.Ways.{Commutes}
use Rattle.conv_build.specs.direct.References.{Hole, Reference, no_reference}
use Rattle.conv_build.specs.direct.HoleMoves.{HoleMoves, brought_hole, brought_holes, hole_moves, hole_moves_entry_step, hole_moves_step, referred, sent_hole, sent_holes, with_hole_moves}
use Rattle.conv_build.proofs.Reduction.{Reduces}
use Rattle.conv_build.proofs.Equations.{formed}
use Rattle.conv_build.proofs.Reading.{ActEach, Acts, ReadAt, Reads, acts_from_places, read_at, reads_length}
use Rattle.conv_build.proofs.Reaching.{spines}
use Rattle.conv_build.proofs.Carrying.{carried_reduces}

entry_holes : (e : Entry) → fold-Entry (ℕ × HoleMoves) HoleMoves hole_moves_entry_step hole_moves_step e ≡ with_hole_moves e
unfolding hole_moves
entry_holes e = fold_out-Entry _ _ _ _ e

entries_holes : (es : List Entry) → map (fold-Entry (ℕ × HoleMoves) HoleMoves hole_moves_entry_step hole_moves_step) es ≡ map with_hole_moves es
entries_holes [] = refl
entries_holes (e ∷ es) = ap₂ ◌∷◌ (entry_holes e) (entries_holes es)

abbrev holes_of : List (ℕ × HoleMoves) → HoleMoves
holes_of ms = record { forth = sent_holes 0 (length ms) ms; back = brought_holes ms }

holes_are : (p : PairTree) → hole_moves p ≡ holes_of (map with_hole_moves (entries_of p))
unfolding hole_moves
holes_are p = fold_out-PairTree _ _ _ _ p ∙ ap holes_of (entries_holes (entries_of p))

pub forth_is : (p : PairTree) (rs : List Reference) → (hole_moves p).forth rs ≡ sent_holes 0 (length (entries_of p)) (map with_hole_moves (entries_of p)) rs
forth_is p rs = ap (λ m. m.forth rs) (holes_are p) ∙ ap (λ count. sent_holes 0 count (map with_hole_moves (entries_of p)) rs) (length-map (entries_of p) with_hole_moves)

pub back_is : (p : PairTree) (rs : List Reference) → (hole_moves p).back rs ≡ brought_holes (map with_hole_moves (entries_of p)) rs
back_is p rs = ap (λ m. m.back rs) (holes_are p)

-- what stands at each place
pub sent_holes_length : (ms : List (ℕ × HoleMoves)) (rs : List Reference) (i count : ℕ) → length (sent_holes i count ms rs) ≡ count
sent_holes_length ms rs i zero = refl
sent_holes_length ms rs i (suc count) = ap suc (sent_holes_length ms rs (i + 1) count)

pub sent_holes_at : (ms : List (ℕ × HoleMoves)) (rs : List Reference) (i count k : ℕ) → k < count → slice_get (sent_holes i count ms rs) k ≡ Some (sent_hole (i + k) ms rs)
sent_holes_at ms rs i zero k l = let no : ⊥ = omega (arith, l) in absurd no
sent_holes_at ms rs i (suc count) zero l = let here : i ≡ i + 0 = omega arith in ap (λ k. Some (sent_hole k ms rs)) here
sent_holes_at ms rs i (suc count) (suc k) l =
    let less : k < count = omega (arith, l) in
    let next : i + 1 + k ≡ i + suc k = omega arith in
    sent_holes_at ms rs (i + 1) count k less ∙ ap (λ k. Some (sent_hole k ms rs)) next

-- at the place of entry j stands its reference
pub sent_hole_at : (es : List Entry) (rs : List Reference) (j k : ℕ) (e : Entry) (r : Reference) (n : ℕ) (vs : List Reference) → AreDifferent (places_of es) → slice_get es j ≡ Some e → place_of e ≡ k → slice_get rs j ≡ Some r
    → sent_hole k (map with_hole_moves es) rs n vs ≡ referred r n ((hole_moves (args_of e)).back vs)
sent_hole_at [] rs j k e r n vs differ at place there = absurd (none_not e at)
sent_hole_at (f ∷ es) [] j k e r n vs differ at place there = absurd (none_not r there)
sent_hole_at (f ∷ es) (s ∷ rs) zero k e r n vs differ at place there =
    let same = some_injective f e at in
    ap (λ x. if x then referred s n ((hole_moves (args_of f)).back vs) else sent_hole k (map with_hole_moves es) rs n vs) (eq-eqb (place_of f) k (ap place_of same ∙ place))
    ∙ ap₂ (λ f s. referred s n ((hole_moves (args_of f)).back vs)) same (some_injective s r there)
sent_hole_at (f ∷ es) (s ∷ rs) (suc j) k e r n vs differ at place there =
    ap (λ x. if x then referred s n ((hole_moves (args_of f)).back vs) else sent_hole k (map with_hole_moves es) rs n vs)
    (is_other (place_of f) k (λ same. none_later (place_of f) es j e differ.0 at (same ∙ sym place)))
    ∙ sent_hole_at es rs j k e r n vs differ.1 at place there

pub brought_holes_length : (es : List Entry) (rs : List Reference) → length (brought_holes (map with_hole_moves es) rs) ≡ length es
brought_holes_length [] rs = refl
brought_holes_length (e ∷ es) rs = ap suc (brought_holes_length es rs)

pub brought_holes_at : (es : List Entry) (rs : List Reference) (j : ℕ) (e : Entry) → slice_get es j ≡ Some e → slice_get (brought_holes (map with_hole_moves es) rs) j ≡ Some (brought_hole (with_hole_moves e) rs)
brought_holes_at [] rs j e at = absurd (none_not e at)
brought_holes_at (f ∷ es) rs zero e at = ap (λ f. Some (brought_hole (with_hole_moves f) rs)) (some_injective f e at)
brought_holes_at (f ∷ es) rs (suc j) e at = brought_holes_at es rs j e at

-- the term of a reference, at terms that act as holes
at_reference : (n j : ℕ) (c : Coordinate) (r : Reference) (u : Term) → ReadAt n c r u → (es : List Term) (holes : List Hole) → ActEach (n + j) (arguments_of c) es holes → Reduces (n + j) (applied (shifted n j u) es) (referred r (n + j) holes)
at_reference n j c r u f es holes k = subst (λ r. Reduces (n + j) (applied (shifted n j u) es) (referred r (n + j) holes)) (sym f.is)
    (spines f.form (n + j) (term.Var f.level) f.place c (shifted n j u) f.coordinate
    (sym (ap (λ x. slice_get x f.place) (split_shifted (formed f.form) n j (term.Var f.level) ∙ ap (split f.type (n + j)) (shifted_var n j f.level ∙ ap term.Var (raised_low n j f.level f.low))))
    ∙ at_map (shifted n j) (split f.type n (term.Var f.level)) f.place u f.term)
    es holes k)

-- what is shown of a pairing of cs with ds
pub record ActsThereAndBack (p : PairTree) (cs ds : List Coordinate) : Type 0 where
  pub forth : (n : ℕ) (rs : List Reference) (us : List Term) → Reads n cs rs us → ActEach n ds (moved p cs ds n us) ((hole_moves p).forth rs)
  pub back : (n : ℕ) (rs : List Reference) (us : List Term) → Reads n ds rs us → ActEach n cs (moved_back p cs ds n us) ((hole_moves p).back rs)

-- what is shown of an entry, the j-th: the coordinates that it pairs
record PairedEntry (cs ds : List Coordinate) (j : ℕ) (e : Entry) : Type 0 where
  c : Coordinate
  d : Coordinate
  there : slice_get cs j ≡ Some c
  here : slice_get ds (place_of e) ≡ Some d
  commute : Commutes (moved (args_of e) (arguments_of c) (arguments_of d)) × Commutes (moved_back (args_of e) (arguments_of c) (arguments_of d))
  acts : ActsThereAndBack (args_of e) (arguments_of c) (arguments_of d)

-- the source is a reference to c, the target has coordinate d
module _ (cs ds : List Coordinate) (j : ℕ) (e : Entry) (m : PairedEntry cs ds j e) (n : ℕ) (r : Reference) (u : Term) where
  acts_forth : ReadAt n m.c r u → Acts n m.d (carried (types_of (arguments_of m.d)) (moved_back (args_of e) (arguments_of m.c) (arguments_of m.d)) n u) (λ k vs. referred r k ((hole_moves (args_of e)).back vs))
  acts_forth reads = λ i vs ws k. Reduces.chain
      (carried_reduces (moved_back (args_of e) (arguments_of m.c) (arguments_of m.d)) m.commute.1 (types_of (arguments_of m.d)) n i u ws ((reads_length k).1 ∙ sym (length-map (arguments_of m.d) coordinate_type)))
      (at_reference n i m.c r u reads (moved_back (args_of e) (arguments_of m.c) (arguments_of m.d) (n + i) ws) ((hole_moves (args_of e)).back vs) (m.acts.back (n + i) vs ws k))

  acts_back : ReadAt n m.d r u → Acts n m.c (carried (types_of (arguments_of m.c)) (moved (args_of e) (arguments_of m.c) (arguments_of m.d)) n u) (λ k vs. referred r k ((hole_moves (args_of e)).forth vs))
  acts_back reads = λ i vs ws k. Reduces.chain
      (carried_reduces (moved (args_of e) (arguments_of m.c) (arguments_of m.d)) m.commute.0 (types_of (arguments_of m.c)) n i u ws ((reads_length k).1 ∙ sym (length-map (arguments_of m.c) coordinate_type)))
      (at_reference n i m.d r u reads (moved (args_of e) (arguments_of m.c) (arguments_of m.d) (n + i) ws) ((hole_moves (args_of e)).forth vs) (m.acts.forth (n + i) vs ws k))

-- a hole that is another at each context and arguments
same_hole : (n : ℕ) (c : Coordinate) (t : Term) (hole other : Hole) → ((k : ℕ) (vs : List Reference) → other k vs ≡ hole k vs) → Acts n c t hole → Acts n c t other
same_hole n c t hole other h acts = λ j rs us k. subst (Reduces (n + j) (applied (shifted n j t) us)) (sym (h (n + j) rs)) (acts j rs us k)

module _ (p : PairTree) (cs ds : List Coordinate) (permutation : IsPermutation (places_of (entries_of p))) (many : length (entries_of p) ≡ length cs) (as_many : length cs ≡ length ds)
    (each : (j : ℕ) (e : Entry) → slice_get (entries_of p) j ≡ Some e → PairedEntry cs ds j e) where
  entry_for : (k : ℕ) → k < length ds → (j : ℕ) × (e : Entry) × (slice_get (entries_of p) j ≡ Some e) × (place_of e ≡ k)
  entry_for k below =
      let (j, stand) = stands (places_of (entries_of p)) permutation k (subst (λ n. k < n) (sym as_many ∙ sym many ∙ sym (length-map (entries_of p) place_of)) below) in
      let (e, at, place) = of_map place_of (entries_of p) j k stand in
      (j, e, at, place)

  forth_acts : (n : ℕ) (rs : List Reference) (us : List Term) → Reads n cs rs us → ActEach n ds (moved p cs ds n us) ((hole_moves p).forth rs)
  forth_acts n rs us reads = acts_from_places n ds (moved p cs ds n us) ((hole_moves p).forth rs) (moved_length p cs ds n us) (ap length (forth_is p rs) ∙ sent_holes_length (map with_hole_moves (entries_of p)) rs 0 (length (entries_of p)) ∙ many ∙ as_many) at_place
    where
      at_place : (k : ℕ) (d : Coordinate) (t : Term) (hole : Hole) → slice_get ds k ≡ Some d → slice_get (moved p cs ds n us) k ≡ Some t → slice_get ((hole_moves p).forth rs) k ≡ Some hole → Acts n d t hole
      at_place k d t hole is_coordinate is_term is_hole =
          let below : k < length ds = slice_get_within ds k d is_coordinate in
          let (j, e, at, place) = entry_for k below in
          let m : PairedEntry cs ds j e = each j e at in
          let here : slice_get ds k ≡ Some m.d = subst (λ k. slice_get ds k ≡ Some m.d) place m.here in
          let differ = different (places_of (entries_of p)) permutation.distinct in
          let (r, u, at_r, at_u, read) = read_at reads j m.c m.there in
          let first = moved_at p cs ds us j k e m.c m.d n differ at place m.there here (slice_get_within us j u at_u) in
          let same_term : carried (types_of (arguments_of m.d)) (moved_back (args_of e) (arguments_of m.c) (arguments_of m.d)) n u ≡ t =
          ap (carried (types_of (arguments_of m.d)) (moved_back (args_of e) (arguments_of m.c) (arguments_of m.d)) n) (sym (get_or_is us j u no_term at_u)) ∙ some_injective _ t (sym first ∙ is_term) in
          let zero_and : 0 + k ≡ k = omega arith in
          let second : slice_get ((hole_moves p).forth rs) k ≡ Some (sent_hole k (map with_hole_moves (entries_of p)) rs) =
          ap (λ hs. slice_get hs k) (forth_is p rs) ∙ sent_holes_at (map with_hole_moves (entries_of p)) rs 0 (length (entries_of p)) k (subst (λ n. k < n) (sym as_many ∙ sym many) below) ∙ ap (λ k. Some (sent_hole k (map with_hole_moves (entries_of p)) rs)) zero_and in
          subst (λ d. Acts n d t hole) (some_injective m.d d (sym here ∙ is_coordinate))
          (subst (λ t. Acts n m.d t hole) same_term
          (subst (Acts n m.d _) (some_injective _ hole (sym second ∙ is_hole))
          (same_hole n m.d _ (λ k vs. referred r k ((hole_moves (args_of e)).back vs)) (sent_hole k (map with_hole_moves (entries_of p)) rs)
          (λ i vs. sent_hole_at (entries_of p) rs j k e r i vs differ at place at_r) (acts_forth cs ds j e m n r u read))))

  back_acts : (n : ℕ) (rs : List Reference) (us : List Term) → Reads n ds rs us → ActEach n cs (moved_back p cs ds n us) ((hole_moves p).back rs)
  back_acts n rs us reads = acts_from_places n cs (moved_back p cs ds n us) ((hole_moves p).back rs) (moved_back_length p cs ds n us many) (ap length (back_is p rs) ∙ brought_holes_length (entries_of p) rs ∙ many) at_place
    where
      at_place : (j : ℕ) (c : Coordinate) (t : Term) (hole : Hole) → slice_get cs j ≡ Some c → slice_get (moved_back p cs ds n us) j ≡ Some t → slice_get ((hole_moves p).back rs) j ≡ Some hole → Acts n c t hole
      at_place j c t hole is_coordinate is_term is_hole =
          let (e, at) = found (entries_of p) j (subst (λ n. j < n) (sym many) (slice_get_within cs j c is_coordinate)) in
          let m : PairedEntry cs ds j e = each j e at in
          let (r, u, at_r, at_u, read) = read_at reads (place_of e) m.d m.here in
          let first = moved_back_at p cs ds us j (place_of e) e m.c m.d n at refl m.there m.here in
          let same_term : carried (types_of (arguments_of m.c)) (moved (args_of e) (arguments_of m.c) (arguments_of m.d)) n u ≡ t =
          ap (carried (types_of (arguments_of m.c)) (moved (args_of e) (arguments_of m.c) (arguments_of m.d)) n) (sym (get_or_is us (place_of e) u no_term at_u)) ∙ some_injective _ t (sym first ∙ is_term) in
          let second : slice_get ((hole_moves p).back rs) j ≡ Some (brought_hole (with_hole_moves e) rs) = ap (λ hs. slice_get hs j) (back_is p rs) ∙ brought_holes_at (entries_of p) rs j e at in
          subst (λ c. Acts n c t hole) (some_injective m.c c (sym m.there ∙ is_coordinate))
          (subst (λ t. Acts n m.c t hole) same_term
          (subst (Acts n m.c _) (some_injective _ hole (sym second ∙ is_hole))
          (same_hole n m.c _ (λ k vs. referred r k ((hole_moves (args_of e)).forth vs)) (brought_hole (with_hole_moves e) rs)
          (λ i vs. ap (λ r. referred r i ((hole_moves (args_of e)).forth vs)) (get_or_is rs (place_of e) r no_reference at_r)) (acts_back cs ds j e m n r u read))))

  level_acts : ActsThereAndBack p cs ds
  level_acts = record { forth = forth_acts; back = back_acts }

entry_here : {a b : Coordinate} {cs ds : List Coordinate} {f : Entry} → slice_get ds (place_of f) ≡ Some b
    → Commutes (moved (args_of f) (arguments_of a) (arguments_of b)) × Commutes (moved_back (args_of f) (arguments_of a) (arguments_of b)) → ActsThereAndBack (args_of f) (arguments_of a) (arguments_of b) → PairedEntry (a ∷ cs) ds 0 f
entry_here {a = a} {b = b} at commute acts = record { c = a; d = b; there = refl; here = at; commute = commute; acts = acts }

entry_later : {a : Coordinate} {cs ds : List Coordinate} {j : ℕ} {e : Entry} → PairedEntry cs ds j e → PairedEntry (a ∷ cs) ds (suc j) e
entry_later m = record { c = m.c; d = m.d; there = m.there; here = m.here; commute = m.commute; acts = m.acts }

mutual
  pub sends : {p : PairTree} {cs ds : List Coordinate} → Pairs ◌≡◌ cs ds p → ActsThereAndBack p cs ds
  sends {p = p} {cs = cs} {ds = ds} (pairs l distinct each) = level_acts p cs ds (permutes ◌≡◌ (pairs l distinct each)) (each_length ◌≡◌ each) l (λ j e at. entry_acts each j e at)

  entry_acts : {cs ds : List Coordinate} {es : List Entry} → PairEach ◌≡◌ cs ds es → (j : ℕ) (e : Entry) → slice_get es j ≡ Some e → PairedEntry cs ds j e
  entry_acts none j e at = absurd (none_not e at)
  entry_acts (more {a} {b} {c = cs} {d = ds} {e = f} to heads inside others) zero e at =
      subst (λ e. PairedEntry (a ∷ cs) ds 0 e) (some_injective f e at) (entry_here {cs = cs} to (moves_commute (pairs_permuted ◌≡◌ inside) (arguments_of a) (arguments_of b)) (sends inside))
  entry_acts (more to heads inside others) (suc j) e at = entry_later (entry_acts others j e at)
