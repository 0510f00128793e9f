-- The equations of moving, and what stands at each place.
use Rattle.std.proofs.Common.{◌≡◌, ◌≢◌, ℕ, zero, suc, ◌+◌, ◌<◌, ◌==◌, Bool, true, false, if◌then◌else◌, List, [], ◌∷◌, map, length, get_or, Some, slice_get, refl, sym, ap, ap₂, ◌∙◌, arith}
use Rattle.std.proofs.lemmas.Bool.{eq-eqb, eqb-true}
use Rattle.type_core.specs.declared.coordinate.Coordinate.{Coordinate}
use Rattle.type_core.specs.Coordinates.{arguments_of}
use Rattle.iso_normal.specs.declared.pair_tree.PairTree.{PairTree}
use Rattle.iso_normal.specs.declared.pair_tree.Entry.{Entry}
use Rattle.iso_normal.specs.declared.pair_tree.Entry.TheFolds.{fold-Entry, fold_out-PairTree, fold_out-Entry}
use Rattle.iso_normal.specs.PairTrees.{ArePermuted, IsPermuted, args_of, entries_of, level, more, none, place_of, places_of}
use Rattle.iso_normal.proofs.Distinct.{AreDifferent, IsNone}
use Rattle.iso_normal.proofs.Permutations.{some_injective}
use Rattle.conv_terms.specs.declared.term.Term.{Term}
use Rattle.conv_terms.specs.Substitution.{images, traversed}
use Rattle.conv_terms.proofs.Equations.{traversed_tup}
use Rattle.conv_terms.proofs.Forms.{none_not}
use Rattle.conv_plain.specs.CoordinateTypes.{types_of}
use Rattle.conv_plain.specs.Moving.{Moves, brought_each, carried, moved, moved_back, moves, moves_entry_step, moves_step, no_coordinate, no_term, sent, sent_each, with_moves}
use Rattle.conv_plain.proofs.Carried.{carried_commutes}
use Rattle.conv_plain.proofs.Ways.{Commutes}

entry_moves : (e : Entry) → fold-Entry (ℕ × Moves) Moves moves_entry_step moves_step e ≡ with_moves e
unfolding moves
entry_moves e = fold_out-Entry _ _ _ _ e

entries_moves : (es : List Entry) → map (fold-Entry (ℕ × Moves) Moves moves_entry_step moves_step) es ≡ map with_moves es
entries_moves [] = refl
entries_moves (e ∷ es) = ap₂ ◌∷◌ (entry_moves e) (entries_moves es)

abbrev moves_of : List (ℕ × Moves) → Moves
moves_of ms = record { forth = λ cs ds. sent_each 0 ms cs ds; back = λ cs ds. brought_each ms cs ds }

moves_are : (p : PairTree) → moves p ≡ moves_of (map with_moves (entries_of p))
unfolding moves
moves_are p = fold_out-PairTree _ _ _ _ p ∙ ap moves_of (entries_moves (entries_of p))

pub moved_is : (p : PairTree) (cs ds : List Coordinate) (n : ℕ) (es : List Term) → moved p cs ds n es ≡ sent_each 0 (map with_moves (entries_of p)) cs ds n es
moved_is p cs ds n es = ap (λ m. m.forth cs ds n es) (moves_are p)

pub moved_back_is : (p : PairTree) (cs ds : List Coordinate) (n : ℕ) (es : List Term) → moved_back p cs ds n es ≡ brought_each (map with_moves (entries_of p)) cs ds n es
moved_back_is p cs ds n es = ap (λ m. m.back cs ds n es) (moves_are p)

-- moving commutes with substitution
module _ (from to : ℕ) (terms : ℕ → Term) where
  abbrev on : ℕ → Term → Term
  on k t = traversed (images from to terms) t k

  no_term_stays : (k : ℕ) → on k no_term ≡ no_term
  no_term_stays k = traversed_tup (images from to terms) [] k

  get_or_on : (k : ℕ) (ts : List Term) (i : ℕ) → on k (get_or ts i no_term) ≡ get_or (map (on k) ts) i no_term
  get_or_on k [] i = no_term_stays k
  get_or_on k (t ∷ ts) zero = refl
  get_or_on k (t ∷ ts) (suc i) = get_or_on k ts i

  chosen : (k : ℕ) (b : Bool) (t u : Term) → on k (if b then t else u) ≡ (if b then on k t else on k u)
  chosen k true t u = refl
  chosen k false t u = refl

-- each of these moves arguments in a way that commutes with substitution
abbrev AllCommute : List (ℕ × Moves) → Type 0
AllCommute [] = Unit {0}
AllCommute (m ∷ ms) = ((cs ds : List Coordinate) → Commutes ((m.1).forth cs ds) × Commutes ((m.1).back cs ds)) × AllCommute ms

sent_commutes : (ms : List (ℕ × Moves)) → AllCommute ms → (i : ℕ) (d : Coordinate) (cs : List Coordinate) (from to : ℕ) (terms : ℕ → Term) (k : ℕ) (es : List Term) → traversed (images from to terms) (sent i d ms cs (from + k) es) k ≡ sent i d ms cs (to + k) (map (λ t. traversed (images from to terms) t k) es)
sent_commutes [] h i d cs from to terms k es = no_term_stays from to terms k
sent_commutes (m ∷ ms) h i d [] from to terms k es = no_term_stays from to terms k
sent_commutes (m ∷ ms) h i d (c ∷ cs) from to terms k [] = no_term_stays from to terms k
sent_commutes (m ∷ ms) h i d (c ∷ cs) from to terms k (e ∷ es) =
    let both = h.0 (arguments_of c) (arguments_of d) in
    chosen from to terms k (m.0 == i) _ _
    ∙ ap₂ (λ t u. if m.0 == i then t else u) (carried_commutes (types_of (arguments_of d)) ((m.1).back (arguments_of c) (arguments_of d)) both.1 from to terms k e) (sent_commutes ms h.1 i d cs from to terms k es)

sent_each_commutes : (ms : List (ℕ × Moves)) → AllCommute ms → (i : ℕ) (cs ds : List Coordinate) → Commutes (sent_each i ms cs ds)
sent_each_commutes ms h i cs [] from to terms k es = refl
sent_each_commutes ms h i cs (d ∷ ds) from to terms k es = ap₂ ◌∷◌ (sent_commutes ms h i d cs from to terms k es) (sent_each_commutes ms h (i + 1) cs ds from to terms k es)

brought_commutes : (ms : List (ℕ × Moves)) → AllCommute ms → (cs ds : List Coordinate) → Commutes (brought_each ms cs ds)
brought_commutes [] h cs ds from to terms k es = refl
brought_commutes (m ∷ ms) h [] ds from to terms k es = refl
brought_commutes (m ∷ ms) h (c ∷ cs) ds from to terms k es =
    let there : List Coordinate = arguments_of (get_or ds m.0 no_coordinate) in
    let both = h.0 (arguments_of c) there in
    ap₂ ◌∷◌ (carried_commutes (types_of (arguments_of c)) ((m.1).forth (arguments_of c) there) both.0 from to terms k (get_or es m.0 no_term) ∙ ap (carried (types_of (arguments_of c)) ((m.1).forth (arguments_of c) there) (to + k)) (get_or_on from to terms k es m.0))
    (brought_commutes ms h.1 cs ds from to terms k es)

level_commutes : (p : PairTree) → AllCommute (map with_moves (entries_of p)) → (cs ds : List Coordinate) → Commutes (moved p cs ds) × Commutes (moved_back p cs ds)
level_commutes p all cs ds = (forth, back)
  where
    forth : Commutes (moved p cs ds)
    forth from to terms k es = ap (map (λ t. traversed (images from to terms) t k)) (moved_is p cs ds (from + k) es) ∙ sent_each_commutes _ all 0 cs ds from to terms k es ∙ sym (moved_is p cs ds (to + k) _)

    back : Commutes (moved_back p cs ds)
    back from to terms k es = ap (map (λ t. traversed (images from to terms) t k)) (moved_back_is p cs ds (from + k) es) ∙ brought_commutes _ all cs ds from to terms k es ∙ sym (moved_back_is p cs ds (to + k) _)

mutual
  pub moves_commute : {p : PairTree} → IsPermuted p → (cs ds : List Coordinate) → Commutes (moved p cs ds) × Commutes (moved_back p cs ds)
  moves_commute (level {p} permutes inner) cs ds = level_commutes p (all_commute inner) cs ds

  all_commute : {es : List Entry} → ArePermuted es → AllCommute (map with_moves es)
  all_commute none = tt
  all_commute (more k ks) = (moves_commute k, all_commute ks)

-- what stands at each place
pub is_other : (k n : ℕ) → k ≢ n → (k == n) ≡ false
is_other k n d = go (k == n) refl
  where
    go : (b : Bool) → (k == n) ≡ b → (k == n) ≡ false
    go true e = absurd (d (eqb-true k n e))
    go false e = e

pub get_or_is : {A : Type 0} (xs : List A) (k : ℕ) (x d : A) → slice_get xs k ≡ Some x → get_or xs k d ≡ x
get_or_is [] k x d e = absurd (none_not x e)
get_or_is (y ∷ xs) zero x d e = some_injective y x e
get_or_is (y ∷ xs) (suc k) x d e = get_or_is xs k x d e

pub none_later : (n : ℕ) (es : List Entry) (j : ℕ) (e : Entry) → IsNone n (places_of es) → slice_get es j ≡ Some e → n ≢ place_of e
none_later n [] j e h at = absurd (none_not e at)
none_later n (f ∷ es) zero e h at = λ same. h.0 (same ∙ sym (ap place_of (some_injective f e at)))
none_later n (f ∷ es) (suc j) e h at = none_later n es j e h.1 at

-- at the place of entry j stands its term, carried
pub sent_at : (es : List Entry) (cs : List Coordinate) (ts : List Term) (j k : ℕ) (e : Entry) (c d : Coordinate) (n : ℕ) → AreDifferent (places_of es) → slice_get es j ≡ Some e → place_of e ≡ k → slice_get cs j ≡ Some c → j < length ts → sent k d (map with_moves es) cs n ts ≡ carried (types_of (arguments_of d)) (moved_back (args_of e) (arguments_of c) (arguments_of d)) n (get_or ts j no_term)
sent_at [] cs ts j k e c d n differ at place there l = absurd (none_not e at)
sent_at (f ∷ es) [] ts j k e c d n differ at place there l = absurd (none_not c there)
sent_at (f ∷ es) (b ∷ cs) [] j k e c d n differ at place there l = let no : ⊥ = omega (arith, l) in absurd no
sent_at (f ∷ es) (b ∷ cs) (t ∷ ts) zero k e c d n differ at place there l =
    let same = some_injective f e at in
    ap (λ x. if x then carried (types_of (arguments_of d)) (moved_back (args_of f) (arguments_of b) (arguments_of d)) n t else sent k d (map with_moves es) cs n ts) (eq-eqb (place_of f) k (ap place_of same ∙ place))
    ∙ ap₂ (λ f b. carried (types_of (arguments_of d)) (moved_back (args_of f) (arguments_of b) (arguments_of d)) n t) same (some_injective b c there)
sent_at (f ∷ es) (b ∷ cs) (t ∷ ts) (suc j) k e c d n differ at place there l =
    let less : j < length ts = omega (arith, l) in
    ap (λ x. if x then carried (types_of (arguments_of d)) (moved_back (args_of f) (arguments_of b) (arguments_of d)) n t else sent k d (map with_moves es) cs n ts)
    (is_other (place_of f) k (λ same. none_later (place_of f) es j e differ.0 at (same ∙ sym place)))
    ∙ sent_at es cs ts j k e c d n differ.1 at place there less

sent_each_at : (ms : List (ℕ × Moves)) (cs ds : List Coordinate) (i k : ℕ) (d : Coordinate) (n : ℕ) (ts : List Term) → slice_get ds k ≡ Some d → slice_get (sent_each i ms cs ds n ts) k ≡ Some (sent (i + k) d ms cs n ts)
sent_each_at ms cs [] i k d n ts at = absurd (none_not d at)
sent_each_at ms cs (b ∷ ds) i zero d n ts at =
    let here : i ≡ i + 0 = omega arith in
    ap Some (ap₂ (λ k b. sent k b ms cs n ts) here (some_injective b d at))
sent_each_at ms cs (b ∷ ds) i (suc k) d n ts at =
    let next : i + 1 + k ≡ i + suc k = omega arith in
    sent_each_at ms cs ds (i + 1) k d n ts at ∙ ap (λ j. Some (sent j d ms cs n ts)) next

sent_each_length : (ms : List (ℕ × Moves)) (cs ds : List Coordinate) (i n : ℕ) (ts : List Term) → length (sent_each i ms cs ds n ts) ≡ length ds
sent_each_length ms cs [] i n ts = refl
sent_each_length ms cs (d ∷ ds) i n ts = ap suc (sent_each_length ms cs ds (i + 1) n ts)

pub moved_length : (p : PairTree) (cs ds : List Coordinate) (n : ℕ) (ts : List Term) → length (moved p cs ds n ts) ≡ length ds
moved_length p cs ds n ts = ap length (moved_is p cs ds n ts) ∙ sent_each_length _ cs ds 0 n ts

-- the term at place k, where entry j stands there
pub moved_at : (p : PairTree) (cs ds : List Coordinate) (ts : List Term) (j k : ℕ) (e : Entry) (c d : Coordinate) (n : ℕ) → AreDifferent (places_of (entries_of p)) → slice_get (entries_of p) j ≡ Some e → place_of e ≡ k → slice_get cs j ≡ Some c → slice_get ds k ≡ Some d → j < length ts → slice_get (moved p cs ds n ts) k ≡ Some (carried (types_of (arguments_of d)) (moved_back (args_of e) (arguments_of c) (arguments_of d)) n (get_or ts j no_term))
moved_at p cs ds ts j k e c d n differ at place there here l =
    let zero_and : 0 + k ≡ k = omega arith in
    ap (λ us. slice_get us k) (moved_is p cs ds n ts) ∙ sent_each_at _ cs ds 0 k d n ts here
    ∙ ap Some (ap (λ k. sent k d (map with_moves (entries_of p)) cs n ts) zero_and ∙ sent_at (entries_of p) cs ts j k e c d n differ at place there l)

brought_each_at : (es : List Entry) (cs ds : List Coordinate) (j : ℕ) (e : Entry) (c : Coordinate) (n : ℕ) (ts : List Term) → slice_get es j ≡ Some e → slice_get cs j ≡ Some c → slice_get (brought_each (map with_moves es) cs ds n ts) j ≡ Some (carried (types_of (arguments_of c)) (moved (args_of e) (arguments_of c) (arguments_of (get_or ds (place_of e) no_coordinate))) n (get_or ts (place_of e) no_term))
brought_each_at [] cs ds j e c n ts at there = absurd (none_not e at)
brought_each_at (f ∷ es) [] ds j e c n ts at there = absurd (none_not c there)
brought_each_at (f ∷ es) (b ∷ cs) ds zero e c n ts at there =
    ap Some (ap₂ (λ f b. carried (types_of (arguments_of b)) (moved (args_of f) (arguments_of b) (arguments_of (get_or ds (place_of f) no_coordinate))) n (get_or ts (place_of f) no_term)) (some_injective f e at) (some_injective b c there))
brought_each_at (f ∷ es) (b ∷ cs) ds (suc j) e c n ts at there = brought_each_at es cs ds j e c n ts at there

brought_each_length : (es : List Entry) (cs ds : List Coordinate) (n : ℕ) (ts : List Term) → length es ≡ length cs → length (brought_each (map with_moves es) cs ds n ts) ≡ length cs
brought_each_length [] cs ds n ts l = l
brought_each_length (e ∷ es) [] ds n ts l = let no : ⊥ = omega (arith, l) in absurd no
brought_each_length (e ∷ es) (c ∷ cs) ds n ts l = let less : length es ≡ length cs = omega (arith, l) in ap suc (brought_each_length es cs ds n ts less)

pub moved_back_length : (p : PairTree) (cs ds : List Coordinate) (n : ℕ) (ts : List Term) → length (entries_of p) ≡ length cs → length (moved_back p cs ds n ts) ≡ length cs
moved_back_length p cs ds n ts l = ap length (moved_back_is p cs ds n ts) ∙ brought_each_length (entries_of p) cs ds n ts l

-- the term of entry j, which stands at place k
pub moved_back_at : (p : PairTree) (cs ds : List Coordinate) (ts : List Term) (j k : ℕ) (e : Entry) (c d : Coordinate) (n : ℕ) → slice_get (entries_of p) j ≡ Some e → place_of e ≡ k → slice_get cs j ≡ Some c → slice_get ds k ≡ Some d → slice_get (moved_back p cs ds n ts) j ≡ Some (carried (types_of (arguments_of c)) (moved (args_of e) (arguments_of c) (arguments_of d)) n (get_or ts k no_term))
moved_back_at p cs ds ts j k e c d n at place there here =
    ap (λ us. slice_get us j) (moved_back_is p cs ds n ts) ∙ brought_each_at (entries_of p) cs ds j e c n ts at there
    ∙ ap Some (ap (λ k. carried (types_of (arguments_of c)) (moved (args_of e) (arguments_of c) (arguments_of (get_or ds k no_coordinate))) n (get_or ts k no_term)) place
    ∙ ap (λ d. carried (types_of (arguments_of c)) (moved (args_of e) (arguments_of c) (arguments_of d)) n (get_or ts k no_term)) (get_or_is ds k d no_coordinate here))
