-- Moving, one entry at a time.
use Rattle.std.proofs.Common.{◌≡◌, ◌≢◌, ℕ, zero, suc, ◌+◌, ◌<◌, ◌≤◌, ◌⊎◌, inl, inr, if◌then◌else◌, List, [], ◌∷◌, ◌++◌, map, length, drop, Some, slice_get, refl, sym, ap, ◌∙◌, arith, add-one, append-nil}
use Rattle.type_core.specs.declared.coordinate.Coordinate.{Coordinate}
use Rattle.type_core.specs.Coordinates.{arguments_of}
use Rattle.iso_normal.specs.declared.pair_tree.Entry.{Entry}
use Rattle.iso_normal.specs.PairTrees.{args_of, place_of}
use Rattle.iso_normal.proofs.Permutations.{some_injective}
use Rattle.conv_terms.specs.declared.term.Term.{Term}
use Rattle.conv_terms.proofs.Forms.{none_not}
use Rattle.conv_plain.specs.CoordinateTypes.{types_of}
use Rattle.conv_plain.specs.Moving.{Moves, brought_each, carried, moved_back, no_term, sent, sent_each, with_moves}
use Rattle.conv_plain.proofs.Moves.{is_other}

no_more : {A : Type 0} (xs : List A) (i : ℕ) → length xs ≤ i → drop i xs ≡ []
no_more [] zero l = refl
no_more [] (suc i) l = refl
no_more (x ∷ xs) zero l = let no : ⊥ = omega (arith, l) in absurd no
no_more (x ∷ xs) (suc i) l = let less : length xs ≤ i = omega (arith, l) in no_more xs i less

sent_without : (ms : List Entry) (k : ℕ) (d : Coordinate) (n : ℕ) (ts : List Term) → sent k d (map with_moves ms) [] n ts ≡ no_term
sent_without [] k d n ts = refl
sent_without (m ∷ ms) k d n ts = refl

sent_of_none : (ms : List Entry) (cs : List Coordinate) (k : ℕ) (d : Coordinate) (n : ℕ) → sent k d (map with_moves ms) cs n [] ≡ no_term
sent_of_none [] cs k d n = refl
sent_of_none (m ∷ ms) [] k d n = refl
sent_of_none (m ∷ ms) (c ∷ cs) k d n = refl

-- where the coordinates or the terms end, nothing is sent
pub sent_ends : (es : List Entry) (cs : List Coordinate) (ts : List Term) (i k : ℕ) (d : Coordinate) (n : ℕ) → (length cs ≤ i) ⊎ (length ts ≤ i) → sent k d (map with_moves (drop i es)) (drop i cs) n (drop i ts) ≡ no_term
sent_ends es cs ts i k d n (inl l) = ap (λ xs. sent k d (map with_moves (drop i es)) xs n (drop i ts)) (no_more cs i l) ∙ sent_without (drop i es) k d n (drop i ts)
sent_ends es cs ts i k d n (inr l) = ap (λ xs. sent k d (map with_moves (drop i es)) (drop i cs) n xs) (no_more ts i l) ∙ sent_of_none (drop i es) (drop i cs) k d n

sent_next : (es : List Entry) (cs : List Coordinate) (ts : List Term) (i k : ℕ) (d : Coordinate) (n : ℕ) (e : Entry) → i < length cs → i < length ts → slice_get es i ≡ Some e → place_of e ≢ k → sent k d (map with_moves (drop i es)) (drop i cs) n (drop i ts) ≡ sent k d (map with_moves (drop (suc i) es)) (drop (suc i) cs) n (drop (suc i) ts)
sent_next [] cs ts i k d n e l m at other = absurd (none_not e at)
sent_next (f ∷ es) [] ts i k d n e l m at other = let no : ⊥ = omega (arith, l) in absurd no
sent_next (f ∷ es) (c ∷ cs) [] i k d n e l m at other = let no : ⊥ = omega (arith, m) in absurd no
sent_next (f ∷ es) (c ∷ cs) (t ∷ ts) zero k d n e l m at other =
    ap (λ x. if x then carried (types_of (arguments_of d)) (moved_back (args_of f) (arguments_of c) (arguments_of d)) n t else sent k d (map with_moves es) cs n ts)
    (is_other (place_of f) k (λ same. other (sym (ap place_of (some_injective f e at)) ∙ same)))
sent_next (f ∷ es) (c ∷ cs) (t ∷ ts) (suc i) k d n e l m at other =
    let less : i < length cs = omega (arith, l) in
    let few : i < length ts = omega (arith, m) in
    sent_next es cs ts i k d n e less few at other

-- an entry that has another place is passed by
pub sent_passes : (es : List Entry) (cs : List Coordinate) (ts : List Term) (i k : ℕ) (d : Coordinate) (n : ℕ) (e : Entry) (whole : Term) → i < length cs → i < length ts → slice_get es i ≡ Some e → place_of e ≢ k → sent k d (map with_moves (drop i es)) (drop i cs) n (drop i ts) ≡ whole → sent k d (map with_moves (drop (i + 1) es)) (drop (i + 1) cs) n (drop (i + 1) ts) ≡ whole
sent_passes es cs ts i k d n e whole l m at other is =
    ap (λ j. sent k d (map with_moves (drop j es)) (drop j cs) n (drop j ts)) (add-one i) ∙ sym (sent_next es cs ts i k d n e l m at other) ∙ is

brought_without : (ms : List Entry) (ds : List Coordinate) (n : ℕ) (ts : List Term) → brought_each (map with_moves ms) [] ds n ts ≡ []
brought_without [] ds n ts = refl
brought_without (m ∷ ms) ds n ts = refl

-- where the coordinates end, nothing more is brought
pub brought_ends : (done whole : List Term) (es : List Entry) (cs ds : List Coordinate) (ts : List Term) (i n : ℕ) → length cs ≤ i → done ++ brought_each (map with_moves (drop i es)) (drop i cs) ds n ts ≡ whole → done ≡ whole
brought_ends done whole es cs ds ts i n l is =
    sym (append-nil done) ∙ ap (λ us. done ++ us) (sym (ap (λ xs. brought_each (map with_moves (drop i es)) xs ds n ts) (no_more cs i l) ∙ brought_without (drop i es) ds n ts)) ∙ is

-- where the places end, nothing more is sent
pub sent_each_ends : (done whole : List Term) (ms : List (ℕ × Moves)) (cs ds : List Coordinate) (ts : List Term) (i k n : ℕ) → length ds ≤ i → done ++ sent_each k ms cs (drop i ds) n ts ≡ whole → done ≡ whole
sent_each_ends done whole ms cs ds ts i k n l is = sym (append-nil done) ∙ ap (λ us. done ++ us) (sym (ap (λ xs. sent_each k ms cs xs n ts) (no_more ds i l))) ∙ is
