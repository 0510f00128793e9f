-- The terms at leaves along a pairing, one entry at a time.
use Rattle.std.proofs.Common.{◌≡◌, ℕ, zero, suc, ◌+◌, ◌<◌, ◌≤◌, if◌then◌else◌, List, [], ◌∷◌, ◌++◌, map, length, drop, get_or, Some, slice_get, refl, sym, ap, ap₂, ◌∙◌, subst, arith, append-nil, append_assoc, add-one}
use Rattle.std.proofs.lemmas.Option.{slice_get-get_or, slice_get_within}
use Rattle.iso_normal.specs.declared.pair_tree.PairTree.{PairTree}
use Rattle.iso_normal.specs.declared.pair_tree.Entry.{Entry}
use Rattle.iso_normal.specs.PairTrees.{ArePermuted, IsPermuted, args_of, entries_of, entry, inverse, level, more, none, place_of, places_of}
use Rattle.iso_normal.proofs.Distinct.{AreDifferent, different}
use Rattle.iso_normal.proofs.Inverses.{inverse_at, inverse_from, inverse_length}
use Rattle.iso_normal.proofs.Permutations.{some_injective}
use Rattle.iso_normal.proofs.TreeParts.{entry_args, entry_place}
use Rattle.conv_terms.specs.declared.term.Term.{Term}
use Rattle.conv_terms.specs.declared.term.Term.TheVariants as term
use Rattle.conv_terms.proofs.Forms.{none_not}
use Rattle.conv_build.specs.direct.References.{Hole, Reference, no_reference}
use Rattle.conv_build.specs.direct.HoleMoves.{brought_hole, hole_moves, referred, sent_hole, with_hole_moves}
use Rattle.conv_build.specs.direct.TwoPasses.{Leaf, filled, reached, way}
use Rattle.conv_build.proofs.Sending.{back_is, brought_holes_at, brought_holes_length, forth_is, sent_hole_at, sent_holes_at, sent_holes_length}
use Rattle.conv_plain.proofs.Moves.{get_or_is, is_other, none_later}
use Rattle.conv_build.proofs.Equations.{spine_tup}
use Rattle.conv_build.proofs.TwoPasses.{reaches}

-- the entry of a permuted tree, and that of its inverse
permuted_at : {es : List Entry} → ArePermuted es → (j : ℕ) (e : Entry) → slice_get es j ≡ Some e → IsPermuted (args_of e)
permuted_at none j e at = absurd (none_not e at)
permuted_at (more {e = f} first others) zero e at = subst (λ e. IsPermuted (args_of e)) (some_injective f e at) first
permuted_at (more first others) (suc j) e at = permuted_at others j e at

-- entry j of the tree stands at k, and that of its inverse stands at j
pub record Beside (p : PairTree) (j k : ℕ) (e f : Entry) : Type 0 where
  pub at : slice_get (entries_of p) j ≡ Some e
  pub inverse_at_place : slice_get (entries_of (inverse p)) k ≡ Some f
  pub place : place_of e ≡ k
  pub number : place_of f ≡ j
  pub arguments : args_of f ≡ inverse (args_of e)
  pub permuted : IsPermuted (args_of e)

beside : (p : PairTree) (j k : ℕ) (e f : Entry) → ArePermuted (entries_of p) → slice_get (entries_of p) j ≡ Some e → slice_get (entries_of (inverse p)) k ≡ Some f → place_of e ≡ k → f ≡ entry j (inverse (args_of e)) → Beside p j k e f
beside p j k e f inner at there place is = record {
  at = at;
  inverse_at_place = there;
  place = place;
  number = ap place_of is ∙ entry_place j (inverse (args_of e));
  arguments = ap args_of is ∙ entry_args j (inverse (args_of e));
  permuted = permuted_at inner j e at;
}

pub from_inverse : {p : PairTree} → IsPermuted p → (k : ℕ) (f : Entry) → slice_get (entries_of (inverse p)) k ≡ Some f → (e : Entry) × Beside p (place_of f) k e f
from_inverse (level {p} permutes inner) k f there =
    let (j, e, at, place, is) = inverse_from p permutes k f there in
    let b : Beside p j k e f = beside p j k e f inner at there place is in
    (e, subst (λ j. Beside p j k e f) (sym b.number) b)

pub from_entry : {p : PairTree} → IsPermuted p → (j : ℕ) (e : Entry) → slice_get (entries_of p) j ≡ Some e → (f : Entry) × Beside p j (place_of e) e f
from_entry (level {p} permutes inner) j e at =
    let f : Entry = entry j (inverse (args_of e)) in
    (f, beside p j (place_of e) e f inner at (inverse_at p permutes j e at) refl refl)

-- one leaf after the other
pub filled_next : (done after : List Term) (holes : List Hole) (leaves : List Leaf) (k : ℕ) (hole : Hole) (l : Leaf) (t : Term) (whole : List Term) → slice_get holes k ≡ Some hole → slice_get leaves k ≡ Some l → t ≡ hole l.depth l.arguments → after ≡ done ++ t ∷ []
    → done ++ filled (drop k holes) (drop k leaves) ≡ whole → after ++ filled (drop (k + 1) holes) (drop (k + 1) leaves) ≡ whole
filled_next done after holes leaves k hole l t whole at there is pushed so_far =
    ap₂ (λ x j. x ++ filled (drop j holes) (drop j leaves)) pushed (add-one k)
    ∙ append_assoc done (t ∷ []) (filled (drop (suc k) holes) (drop (suc k) leaves))
    ∙ ap (λ x. done ++ x) (ap (λ t. t ∷ filled (drop (suc k) holes) (drop (suc k) leaves)) is ∙ sym (opened holes leaves k at there)) ∙ so_far
  where
    opened : (holes : List Hole) (leaves : List Leaf) (k : ℕ) → slice_get holes k ≡ Some hole → slice_get leaves k ≡ Some l → filled (drop k holes) (drop k leaves) ≡ hole l.depth l.arguments ∷ filled (drop (suc k) holes) (drop (suc k) leaves)
    opened [] leaves k at there = absurd (none_not hole at)
    opened (h ∷ holes) [] k at there = absurd (none_not l there)
    opened (h ∷ holes) (m ∷ leaves) zero at there = ap₂ (λ (h : Hole) (m : Leaf). h m.depth m.arguments ∷ filled holes leaves) (some_injective h hole at) (some_injective m l there)
    opened (h ∷ holes) (m ∷ leaves) (suc k) at there = opened holes leaves k at there

no_more : {A : Type 0} (xs : List A) (i : ℕ) → length xs ≤ i → drop i xs ≡ []
no_more [] zero l = refl
no_more [] (suc i) l = refl
no_more (x ∷ xs) zero l = let no : ⊥ = omega (arith, l) in absurd no
no_more (x ∷ xs) (suc i) l = let less : length xs ≤ i = omega (arith, l) in no_more xs i less

filled_without : (holes : List Hole) → filled holes [] ≡ []
filled_without [] = refl
filled_without (hole ∷ holes) = refl

pub leaves_end : (done : List Term) (holes : List Hole) (leaves : List Leaf) (k : ℕ) (whole : List Term) → length leaves ≤ k → done ++ filled (drop k holes) (drop k leaves) ≡ whole → done ≡ whole
leaves_end done holes leaves k whole end so_far =
    sym (append-nil done) ∙ ap (λ x. done ++ x) (sym (ap (filled (drop k holes)) (no_more leaves k end) ∙ filled_without (drop k holes))) ∙ so_far

pub holes_end : (done : List Term) (holes : List Hole) (leaves : List Leaf) (k : ℕ) (whole : List Term) → length holes ≤ k → done ++ filled (drop k holes) (drop k leaves) ≡ whole → done ≡ whole
holes_end done holes leaves k whole end so_far =
    sym (append-nil done) ∙ ap (λ x. done ++ x) (sym (ap (λ hs. filled hs (drop k leaves)) (no_more holes k end))) ∙ so_far

-- the coordinate that is referred to, in two passes
pub referred_is : (r : Reference) (n : ℕ) (holes : List Hole) (inner : List Leaf) (terms : List Term) (t : Term) → inner ≡ way r.type r.place n → terms ≡ filled holes inner → t ≡ reached r.type r.place (term.Var r.level) terms → t ≡ referred r n holes
referred_is r n holes inner terms t inner_is terms_are is =
    is ∙ ap (reached r.type r.place (term.Var r.level)) (terms_are ∙ ap (filled holes) inner_is) ∙ sym (reaches r.type r.place n (term.Var r.level) holes)

-- the holes of a pairing, there and back
module _ (p : PairTree) (rs : List Reference) where
  pub forth_length : length ((hole_moves p).forth rs) ≡ length (entries_of p)
  forth_length = ap length (forth_is p rs) ∙ sent_holes_length (map with_hole_moves (entries_of p)) rs 0 (length (entries_of p))

  pub back_length : length ((hole_moves p).back rs) ≡ length (entries_of p)
  back_length = ap length (back_is p rs) ∙ brought_holes_length (entries_of p) rs

  pub forth_at : (k : ℕ) → k < length (entries_of p) → slice_get ((hole_moves p).forth rs) k ≡ Some (sent_hole k (map with_hole_moves (entries_of p)) rs)
  forth_at k less =
      let here : 0 + k ≡ k = omega arith in
      ap (λ hs. slice_get hs k) (forth_is p rs) ∙ sent_holes_at (map with_hole_moves (entries_of p)) rs 0 (length (entries_of p)) k less
      ∙ ap (λ k. Some (sent_hole k (map with_hole_moves (entries_of p)) rs)) here

  pub back_at : (j : ℕ) (e : Entry) → slice_get (entries_of p) j ≡ Some e → slice_get ((hole_moves p).back rs) j ≡ Some (brought_hole (with_hole_moves e) rs)
  back_at j e at = ap (λ hs. slice_get hs j) (back_is p rs) ∙ brought_holes_at (entries_of p) rs j e at

referred_none : (n : ℕ) (holes : List Hole) → referred no_reference n holes ≡ term.Var 0
referred_none n holes = spine_tup [] 0 n (term.Var 0) holes

-- the hole for the place of entry j
sent_hole_is : (es : List Entry) (rs : List Reference) (j k : ℕ) (e : Entry) (n : ℕ) (vs : List Reference) → AreDifferent (places_of es) → slice_get es j ≡ Some e → place_of e ≡ k
    → sent_hole k (map with_hole_moves es) rs n vs ≡ referred (get_or rs j no_reference) n ((hole_moves (args_of e)).back vs)
sent_hole_is [] rs j k e n vs differ at place = absurd (none_not e at)
sent_hole_is (f ∷ es) [] j k e n vs differ at place = sym (referred_none n ((hole_moves (args_of e)).back vs))
sent_hole_is (f ∷ es) (s ∷ rs) zero k e n vs differ at place = sent_hole_at (f ∷ es) (s ∷ rs) 0 k e s n vs differ at place refl
sent_hole_is (f ∷ es) (s ∷ rs) (suc j) k e n vs differ at place =
    ap (λ x. if x then referred s n ((hole_moves (args_of f)).back vs) else sent_hole k (map with_hole_moves es) rs n vs)
    (is_other (place_of f) k (λ same. none_later (place_of f) es j e differ.0 at (same ∙ sym place)))
    ∙ sent_hole_is es rs j k e n vs differ.1 at place

-- what the hole for place k makes, where entry f of the inverse stands there
pub sent_is : {p : PairTree} → IsPermuted p → (rs : List Reference) (k j : ℕ) (e f : Entry) (n : ℕ) (vs : List Reference) → Beside p j k e f → sent_hole k (map with_hole_moves (entries_of p)) rs n vs ≡ referred (get_or rs j no_reference) n ((hole_moves (args_of e)).back vs)
sent_is (level {p} permutes inner) rs k j e f n vs b = sent_hole_is (entries_of p) rs j k e n vs (different (places_of (entries_of p)) permutes.distinct) b.at b.place

-- the entries as the code finds them
module _ (p q : PairTree) (es fs : List Entry) (permuted : IsPermuted p) (inverted : q ≡ inverse p) (es_are : es ≡ entries_of p) (fs_are : fs ≡ entries_of q) where
  fs_inverse : fs ≡ entries_of (inverse p)
  fs_inverse = fs_are ∙ ap entries_of inverted

  as_many : length fs ≡ length (entries_of p)
  as_many = ap length fs_inverse ∙ inverse_length p

  found : (k : ℕ) (d : Entry) → k < length fs → (e : Entry) × Beside p (place_of (get_or fs k d)) k e (get_or fs k d)
  found k d less = from_inverse permuted k (get_or fs k d) (ap (λ xs. slice_get xs k) (sym fs_inverse) ∙ slice_get-get_or fs k d less)

  pub sent_below : (k : ℕ) (d : Entry) → k < length fs → place_of (get_or fs k d) < length es
  sent_below k d less =
      let (e, b) = found k d less in
      slice_get_within es (place_of (get_or fs k d)) e (ap (λ xs. slice_get xs (place_of (get_or fs k d))) es_are ∙ b.at)

  entry_is : (k : ℕ) (d x : Entry) (e f : Entry) (j : ℕ) → Beside p j k e f → get_or es j x ≡ e
  entry_is k d x e f j b = ap (λ xs. get_or xs j x) es_are ∙ get_or_is (entries_of p) j e x b.at

  pub sent_permuted : (k : ℕ) (d x : Entry) → k < length fs → IsPermuted (args_of (get_or es (place_of (get_or fs k d)) x))
  sent_permuted k d x less =
      let (e, b) = found k d less in
      subst (λ e. IsPermuted (args_of e)) (sym (entry_is k d x e (get_or fs k d) (place_of (get_or fs k d)) b)) b.permuted

  same_item : (xs : List Entry) (k : ℕ) (d x : Entry) → k < length xs → get_or xs k x ≡ get_or xs k d
  same_item xs k d x less = get_or_is xs k (get_or xs k d) x (slice_get-get_or xs k d less)

  pub sent_inverse : (k : ℕ) (d x y : Entry) → k < length fs → args_of (get_or fs k y) ≡ inverse (args_of (get_or es (place_of (get_or fs k d)) x))
  sent_inverse k d x y less =
      let (e, b) = found k d less in
      ap args_of (same_item fs k d y less) ∙ b.arguments ∙ ap (λ e. inverse (args_of e)) (sym (entry_is k d x e (get_or fs k d) (place_of (get_or fs k d)) b))

  beside_entry : (k : ℕ) (d : Entry) → k < length es → (f : Entry) × Beside p k (place_of (get_or es k d)) (get_or es k d) f
  beside_entry k d less = from_entry permuted k (get_or es k d) (ap (λ xs. slice_get xs k) (sym es_are) ∙ slice_get-get_or es k d less)

  inverse_is : (k j : ℕ) (x e f : Entry) → Beside p k j e f → get_or fs j x ≡ f
  inverse_is k j x e f b = ap (λ xs. get_or xs j x) fs_inverse ∙ get_or_is (entries_of (inverse p)) j f x b.inverse_at_place

  pub brought_below : (k : ℕ) (d : Entry) → k < length es → place_of (get_or es k d) < length fs
  brought_below k d less =
      let (f, b) = beside_entry k d less in
      slice_get_within fs (place_of (get_or es k d)) f (ap (λ xs. slice_get xs (place_of (get_or es k d))) fs_inverse ∙ b.inverse_at_place)

  pub brought_permuted : (k : ℕ) (d y : Entry) → k < length es → IsPermuted (args_of (get_or es k y))
  brought_permuted k d y less =
      let (f, b) = beside_entry k d less in
      subst (λ e. IsPermuted (args_of e)) (sym (same_item es k d y less)) b.permuted

  pub brought_inverse : (k : ℕ) (d x y : Entry) → k < length es → args_of (get_or fs (place_of (get_or es k d)) x) ≡ inverse (args_of (get_or es k y))
  brought_inverse k d x y less =
      let (f, b) = beside_entry k d less in
      ap args_of (inverse_is k (place_of (get_or es k d)) x (get_or es k d) f b) ∙ b.arguments ∙ ap (λ e. inverse (args_of e)) (sym (same_item es k d y less))

  -- the term for one leaf
  module _ (rs : List Reference) (leaves : List Leaf) (k : ℕ) (l m : Leaf) (arguments : List Reference) (r : Reference) (inner items : List Leaf) (terms : List Term) (t : Term) (done after : List Term)
      (few : k < length leaves) (l_is : l ≡ get_or leaves k l) (m_is : m ≡ get_or leaves k m) (inner_is : inner ≡ way r.type r.place l.depth) (arguments_are : arguments ≡ m.arguments)
      (items_are : items ≡ inner) (t_is : t ≡ reached r.type r.place (term.Var r.level) terms) (pushed : after ≡ done ++ t ∷ []) where
    leaf_there : slice_get leaves k ≡ Some l
    leaf_there = slice_get-get_or leaves k l few ∙ ap Some (sym l_is)

    one_leaf : m ≡ l
    one_leaf = m_is ∙ get_or_is leaves k l m leaf_there

    term_is : (moved : List Reference → List Hole) → terms ≡ filled (moved arguments) items → t ≡ referred r l.depth (moved l.arguments)
    term_is moved are = referred_is r l.depth (moved l.arguments) items terms t (items_are ∙ inner_is) (are ∙ ap (λ vs. filled (moved vs) items) (arguments_are ∙ ap (λ (m : Leaf). m.arguments) one_leaf)) t_is

    pub sent_next : (d x : Entry) → k < length fs → r ≡ get_or rs (place_of (get_or fs k d)) no_reference → terms ≡ filled ((hole_moves (args_of (get_or es (place_of (get_or fs k d)) x))).back arguments) items
        → done ++ filled (drop k ((hole_moves p).forth rs)) (drop k leaves) ≡ filled ((hole_moves p).forth rs) leaves
        → after ++ filled (drop (k + 1) ((hole_moves p).forth rs)) (drop (k + 1) leaves) ≡ filled ((hole_moves p).forth rs) leaves
    sent_next d x less r_is are so_far =
        let (e, b) = found k d less in
        let j : ℕ = place_of (get_or fs k d) in
        let few_entries : k < length (entries_of p) = subst (λ n. k < n) as_many less in
        let made : t ≡ referred r l.depth ((hole_moves (args_of (get_or es j x))).back l.arguments) = term_is ((hole_moves (args_of (get_or es j x))).back) are in
        filled_next done after ((hole_moves p).forth rs) leaves k (sent_hole k (map with_hole_moves (entries_of p)) rs) l t (filled ((hole_moves p).forth rs) leaves) (forth_at p rs k few_entries) leaf_there
        (made ∙ ap₂ (λ r e. referred r l.depth ((hole_moves (args_of e)).back l.arguments)) r_is (entry_is k d x e (get_or fs k d) j b) ∙ sym (sent_is permuted rs k j e (get_or fs k d) l.depth l.arguments b))
        pushed so_far

    pub brought_next : (d y : Entry) → k < length es → r ≡ get_or rs (place_of (get_or es k d)) no_reference → terms ≡ filled ((hole_moves (args_of (get_or es k y))).forth arguments) items
        → done ++ filled (drop k ((hole_moves p).back rs)) (drop k leaves) ≡ filled ((hole_moves p).back rs) leaves
        → after ++ filled (drop (k + 1) ((hole_moves p).back rs)) (drop (k + 1) leaves) ≡ filled ((hole_moves p).back rs) leaves
    brought_next d y less r_is are so_far =
        let e : Entry = get_or es k d in
        let made : t ≡ referred r l.depth ((hole_moves (args_of (get_or es k y))).forth l.arguments) = term_is ((hole_moves (args_of (get_or es k y))).forth) are in
        filled_next done after ((hole_moves p).back rs) leaves k (brought_hole (with_hole_moves e) rs) l t (filled ((hole_moves p).back rs) leaves)
        (back_at p rs k e (ap (λ xs. slice_get xs k) (sym es_are) ∙ slice_get-get_or es k d less)) leaf_there
        (made ∙ ap₂ (λ r e. referred r l.depth ((hole_moves (args_of e)).forth l.arguments)) r_is (same_item es k d y less))
        pushed so_far
