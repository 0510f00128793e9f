-- Coordinates agree, as factors, exactly where there is a pairing of them.
use Rattle.std.proofs.Common.{◌≡◌, ◌≢◌, ℕ, zero, suc, List, [], ◌∷◌, map, length, Option, Some, None, slice_get, refl, sym, ap, ap₂, ◌∙◌, subst, arith}
use Rattle.std.proofs.lemmas.List.{length-map}
use Rattle.type_core.specs.declared.coordinate.Coordinate.{Coordinate}
use Rattle.type_core.specs.declared.ty.Ty.{Ty}
use Rattle.type_core.specs.Coordinates.{arguments_of, head_of}
use Rattle.type_core.specs.ValidLibrary.{AreDistinct}
use Rattle.iso_normal.specs.declared.factor.Factor.{Factor}
use Rattle.iso_normal.specs.declared.factor.Factor.TheVariants as factor
use Rattle.iso_normal.specs.declared.factor.Factor.TheVariants.{outs-Atom, outs-Arr}
use Rattle.iso_normal.specs.declared.factor.Factor.TheOpen.{Factor-F, Atom, Arr}
use Rattle.iso_normal.specs.declared.factor.Factor.TheViews.{out-Factor}
use Rattle.iso_normal.specs.declared.pair_tree.PairTree.{PairTree}
use Rattle.iso_normal.specs.declared.pair_tree.Entry.{Entry}
use Rattle.iso_normal.specs.Agreement.{Agree, AreAlike, Takes, first, later, none, more, atoms, arrows}
use Rattle.iso_normal.specs.Factors.{arrow_to}
use Rattle.iso_normal.specs.PairTrees.{entries_of, entry, pair_tree, place_of, places_of}
use Rattle.iso_normal.specs.Pairings as pairing
use Rattle.iso_normal.specs.Pairings.{PairEach, Pairs, pairs}
use Rattle.iso_normal.proofs.Agreeing.{alike_behind, alike_refl}
use Rattle.iso_normal.proofs.Permutations.{some_injective, suc_injective}
use Rattle.iso_normal.proofs.TreeParts.{entry_args, entry_place, tree_entries}
use Rattle.iso_normal.proofs.Distinct.{AreDifferent, IsNone, different, distinct}
use Rattle.iso_normal.proofs.Readings.{as_factor, as_factor_is, behind}

-- a list from which some are taken
abbrev Places : Type 0
Places = List (Option Coordinate)

-- those that are left, as factors
abbrev left : Places → List Factor
left [] = []
left (None ∷ all) = left all
left (Some c ∷ all) = as_factor c ∷ left all

abbrev take_out : ℕ → Places → Places
take_out k [] = []
take_out zero (o ∷ all) = None ∷ all
take_out (suc k) (o ∷ all) = o ∷ take_out k all

left_all : (cs : List Coordinate) → left (map Some cs) ≡ map as_factor cs
left_all [] = refl
left_all (c ∷ cs) = ap (λ r. as_factor c ∷ r) (left_all cs)

taken_out : (k : ℕ) (all : Places) (b : Coordinate) → slice_get all k ≡ Some (Some b) → Takes (as_factor b) (left all) (left (take_out k all))
taken_out k [] b e = absurd (cc e)
taken_out zero (o ∷ all) b e = subst (λ o. Takes (as_factor b) (left (o ∷ all)) (left all)) (sym (some_injective o (Some b) e)) (first (left all))
taken_out (suc k) (None ∷ all) b e = taken_out k all b e
taken_out (suc k) (Some c ∷ all) b e = later (as_factor c) (taken_out k all b e)

stays : (k j : ℕ) (all : Places) → k ≢ j → slice_get (take_out k all) j ≡ slice_get all j
stays k j [] d = refl
stays zero zero (o ∷ all) d = absurd (d refl)
stays zero (suc j) (o ∷ all) d = refl
stays (suc k) zero (o ∷ all) d = refl
stays (suc k) (suc j) (o ∷ all) d = stays k j all (λ e. d (ap suc e))

-- from a pairing to agreement: the places to come are those that are left
abbrev IsOpen : Places → List Coordinate → ℕ → Type 0
IsOpen all d k = (b : Coordinate) → slice_get d k ≡ Some b → slice_get all k ≡ Some (Some b)

abbrev AreOpen : Places → List Coordinate → List ℕ → Type 0
AreOpen all d [] = Unit {0}
AreOpen all d (k ∷ ks) = IsOpen all d k × AreOpen all d ks

open_at_first : (d : List Coordinate) (k : ℕ) → IsOpen (map Some d) d k
open_at_first [] k b e = absurd (cc e)
open_at_first (c ∷ d) zero b e = ap Some e
open_at_first (c ∷ d) (suc k) b e = open_at_first d k b e

all_open : (d : List Coordinate) (ks : List ℕ) → AreOpen (map Some d) d ks
all_open d [] = tt
all_open d (k ∷ ks) = (open_at_first d k, all_open d ks)

still_open : (k : ℕ) (all : Places) (d : List Coordinate) (ks : List ℕ) → IsNone k ks → AreOpen all d ks → AreOpen (take_out k all) d ks
still_open k all d [] n o = tt
still_open k all d (j ∷ ks) n o = (λ b e. stays k j all n.0 ∙ o.0 b e, still_open k all d ks n.1 o.1)

takes_length : {f : Factor} {all rest : List Factor} → Takes f all rest → length all ≡ suc (length rest)
takes_length (first rest) = refl
takes_length (later g t) = ap suc (takes_length t)

none_of_length : (fs : List Factor) → length fs ≡ 0 → fs ≡ []
none_of_length [] e = refl
none_of_length (f ∷ fs) e = absurd (omega (arith, e))

alike_factors : (a b : Coordinate) → Agree (map as_factor (arguments_of a)) (map as_factor (arguments_of b)) → head_of a ≡ head_of b → AreAlike (out-Factor (as_factor a)) (out-Factor (as_factor b))
alike_factors a b e h =
    subst (λ x. AreAlike (out-Factor x) (out-Factor (as_factor b))) (sym (as_factor_is a))
    (subst (λ y. AreAlike (out-Factor (behind (map as_factor (arguments_of a)) (factor.Atom (head_of a)))) (out-Factor y)) (sym (as_factor_is b))
    (alike_behind (factor.Atom (head_of a)) (factor.Atom (head_of b)) e
    (subst (λ t. AreAlike (out-Factor (factor.Atom (head_of a))) (out-Factor (factor.Atom t))) h (alike_refl (factor.Atom (head_of a))))))

mutual
  pub agree_of_pairs : {c d : List Coordinate} {p : PairTree} → Pairs ◌≡◌ c d p → Agree (map as_factor c) (map as_factor d)
  agree_of_pairs {c} {d} {p} (pairs l distinct each) =
      subst (Agree (map as_factor c)) (left_all d)
      (agree_of_each each (map Some d) (different _ distinct) (all_open d (places_of (entries_of p)))
      (ap length (left_all d) ∙ length-map d as_factor ∙ sym l))

  agree_of_each : {c d : List Coordinate} {es : List Entry} → PairEach ◌≡◌ c d es → (all : Places) → AreDifferent (places_of es) → AreOpen all d (places_of es) → length (left all) ≡ length c → Agree (map as_factor c) (left all)
  agree_of_each pairing.none all u o l = subst (Agree []) (sym (none_of_length (left all) l)) none
  agree_of_each (pairing.more {a} {b} {c} {d} {e} {entries = es} at head inside others) all u o l =
      let t = taken_out (place_of e) all b (o.0 b at) in
      more t (alike_factors a b (agree_of_pairs inside) head)
      (agree_of_each others (take_out (place_of e) all) u.1 (still_open (place_of e) all d (places_of es) u.0 o.1)
      (suc_injective _ _ (sym (takes_length t) ∙ l)))

-- from agreement to a pairing: the factor of a coordinate, from outside
data IsShape : List Coordinate → Ty → Factor-F Factor → Type 0 where
  bare : (head : Ty) → IsShape [] head (Atom head)
  applied : (a : Coordinate) (arguments : List Coordinate) (head : Ty) → IsShape (a ∷ arguments) head (Arr (as_factor a ∷ map as_factor arguments) (factor.Atom head ∷ []))

shape_of : (arguments : List Coordinate) (head : Ty) → IsShape arguments head (out-Factor (behind (map as_factor arguments) (factor.Atom head)))
shape_of [] head = subst (IsShape [] head) (sym (outs-Atom head)) (bare head)
shape_of (a ∷ arguments) head =
    let xs : List Factor = as_factor a ∷ map as_factor arguments in
    subst (IsShape (a ∷ arguments) head) (sym (ap (λ x. out-Factor (arrow_to xs x)) (outs-Atom head) ∙ outs-Arr xs (factor.Atom head ∷ []))) (applied a arguments head)

-- a factor that is that of a coordinate
shape : (f : Factor) (c : Coordinate) → f ≡ as_factor c → IsShape (arguments_of c) (head_of c) (out-Factor f)
shape f c e = subst (λ g. IsShape (arguments_of c) (head_of c) (out-Factor g)) (sym (e ∙ as_factor_is c)) (shape_of (arguments_of c) (head_of c))

abbrev first_of : {A : Type 0} (d : A) → List A → A
first_of d [] = d
first_of d (x ∷ xs) = x

abbrev rest_of : {A : Type 0} → List A → List A
rest_of [] = []
rest_of (x ∷ xs) = xs

pub same_first : {A : Type 0} {x y : A} {xs ys : List A} → x ∷ xs ≡ y ∷ ys → x ≡ y
same_first {x} e = ap (first_of x) e

pub same_rest : {A : Type 0} {x y : A} {xs ys : List A} → x ∷ xs ≡ y ∷ ys → xs ≡ ys
same_rest e = ap rest_of e

-- the place of one that is taken
record Place (g : Factor) (rest : List Factor) (all : Places) : Type 0 where
  at : ℕ
  partner : Coordinate
  is : g ≡ as_factor partner
  stands : slice_get all at ≡ Some (Some partner)
  others : rest ≡ left (take_out at all)

find : (all : Places) {g : Factor} {gs rest : List Factor} → Takes g gs rest → gs ≡ left all → Place g rest all
find [] (first rest) e = absurd (cc e)
find [] (later h t) e = absurd (cc e)
find (None ∷ all) t e =
    let p = find all t e in
    record { at = suc p.at; partner = p.partner; is = p.is; stands = p.stands; others = p.others }
find (Some c ∷ all) (first rest) e = record { at = zero; partner = c; is = same_first e; stands = refl; others = same_rest e }
find (Some c ∷ all) (later {rest} h t) e =
    let p = find all t (same_rest e) in
    record { at = suc p.at; partner = p.partner; is = p.is; stands = p.stands; others = ap₂ ◌∷◌ (same_first e) p.others }

-- each place that holds a coordinate still holds that of d
abbrev IsWithin : Places → List Coordinate → Type 0
IsWithin all d = (k : ℕ) (b : Coordinate) → slice_get all k ≡ Some (Some b) → slice_get d k ≡ Some b

within_at_first : (d : List Coordinate) → IsWithin (map Some d) d
within_at_first [] k b e = absurd (cc e)
within_at_first (c ∷ d) zero b e = some_injective (Some c) (Some b) e
within_at_first (c ∷ d) (suc k) b e = within_at_first d k b e

gone : (k : ℕ) (all : Places) (b : Coordinate) → slice_get (take_out k all) k ≡ Some (Some b) → ⊥
gone k [] b e = cc e
gone zero (o ∷ all) b e = cc (some_injective None (Some b) e)
gone (suc k) (o ∷ all) b e = gone k all b e

other_place : (k j : ℕ) (all : Places) (b : Coordinate) → slice_get (take_out k all) j ≡ Some (Some b) → k ≢ j
other_place k j all b e same = gone k all b (subst (λ j. slice_get (take_out k all) j ≡ Some (Some b)) (sym same) e)

was_there : (k j : ℕ) (all : Places) (b : Coordinate) → slice_get (take_out k all) j ≡ Some (Some b) → slice_get all j ≡ Some (Some b)
was_there k j all b e = sym (stays k j all (other_place k j all b e)) ∙ e

-- each of the places holds a coordinate
abbrev AreHeld : Places → List ℕ → Type 0
AreHeld all [] = Unit {0}
AreHeld all (k ∷ ks) = ((b : Coordinate) × slice_get all k ≡ Some (Some b)) × AreHeld all ks

held_before : (k : ℕ) (all : Places) (ks : List ℕ) → AreHeld (take_out k all) ks → IsNone k ks × AreHeld all ks
held_before k all [] h = (tt, tt)
held_before k all (j ∷ ks) h =
    let others = held_before k all ks h.1 in
    ((other_place k j all h.0.0 h.0.1, others.0), ((h.0.0, was_there k j all h.0.0 h.0.1), others.1))

record Entries (c d : List Coordinate) (all : Places) : Type 0 where
  entries : List Entry
  each : PairEach ◌≡◌ c d entries
  differ : AreDifferent (places_of entries)
  held : AreHeld all (places_of entries)

agree_length : {fs gs : List Factor} → Agree fs gs → length fs ≡ length gs
agree_length none = refl
agree_length (more t s others) = ap suc (agree_length others) ∙ sym (takes_length t)

same_length : (c d : List Coordinate) {fs gs : List Factor} → Agree fs gs → fs ≡ map as_factor c → gs ≡ map as_factor d → length c ≡ length d
same_length c d e p q = sym (length-map c as_factor) ∙ sym (ap length p) ∙ agree_length e ∙ ap length q ∙ length-map d as_factor

abbrev atom_of : Ty → Factor-F Factor → Ty
atom_of t (Atom u) = u
atom_of t (Arr args results) = t

one_atom : {x y : Factor-F Factor} {h k : Ty} → AreAlike x y → x ≡ Atom h → y ≡ Atom k → h ≡ k
one_atom (atoms t) p q = sym (ap (atom_of t) p) ∙ ap (atom_of t) q
one_atom (arrows a r) p q = absurd (cc p)

one_head : {fs gs : List Factor} {h k : Ty} → Agree fs gs → fs ≡ factor.Atom h ∷ [] → gs ≡ factor.Atom k ∷ [] → h ≡ k
one_head none p q = absurd (cc p)
one_head {h} {k} (more (first rest) s others) p q = one_atom s (ap out-Factor (same_first p) ∙ outs-Atom h) (ap out-Factor (same_first q) ∙ outs-Atom k)
one_head (more (later g (first rest)) s others) p q = absurd (cc (same_rest q))
one_head (more (later g (later h t)) s others) p q = absurd (cc (same_rest q))

of_entries : (c d : List Coordinate) (es : List Entry) → length c ≡ length d → AreDifferent (places_of es) → PairEach ◌≡◌ c d es → Pairs ◌≡◌ c d (pair_tree es)
of_entries c d es l differ each =
    let same : es ≡ entries_of (pair_tree es) = sym (tree_entries es) in
    pairs l (subst (λ es. AreDistinct (places_of es)) same (distinct (places_of es) differ)) (subst (PairEach ◌≡◌ c d) same each)

of_found : (c d : List Coordinate) → length c ≡ length d → Entries c d (map Some d) → (p : PairTree) × Pairs ◌≡◌ c d p
of_found c d l found = (pair_tree found.entries, of_entries c d found.entries l found.differ found.each)

mutual
  paired_one : {x y : Factor-F Factor} → AreAlike x y → {xs ys : List Coordinate} {h k : Ty} → IsShape xs h x → IsShape ys k y → (h ≡ k) × (p : PairTree) × Pairs ◌≡◌ xs ys p
  paired_one (atoms t) (bare _) (bare _) = (refl, pair_tree [], of_entries [] [] [] refl tt pairing.none)
  paired_one (arrows e r) (applied a xs h) (applied b ys k) =
      let found = entries_for e (a ∷ xs) (b ∷ ys) refl (map Some (b ∷ ys)) (sym (left_all (b ∷ ys))) (within_at_first (b ∷ ys)) in
      let inside = of_found (a ∷ xs) (b ∷ ys) (same_length (a ∷ xs) (b ∷ ys) e refl refl) found in
      (one_head r refl refl, inside.0, inside.1)

  entries_for : {fs gs : List Factor} → Agree fs gs → (c d : List Coordinate) → fs ≡ map as_factor c → (all : Places) → gs ≡ left all → IsWithin all d → Entries c d all
  entries_for none [] d p all q w = record { entries = []; each = pairing.none; differ = tt; held = tt }
  entries_for none (a ∷ c) d p all q w = absurd (cc p)
  entries_for (more t s others) [] d p all q w = absurd (cc p)
  entries_for (more {f} {g} t s others) (a ∷ c) d p all q w =
      let place = find all t q in
      let inside = paired_one s (shape f a (same_first p)) (shape g place.partner place.is) in
      let rest = entries_for others c d (same_rest p) (take_out place.at all) place.others (λ k b e. w k b (was_there place.at k all b e)) in
      let before = held_before place.at all (places_of rest.entries) rest.held in
      let here : place_of (entry place.at inside.1) ≡ place.at = entry_place place.at inside.1 in
      record {
        entries = entry place.at inside.1 ∷ rest.entries;
        each = pairing.more (ap (slice_get d) here ∙ w place.at place.partner place.stands) inside.0
            (subst (Pairs ◌≡◌ (arguments_of a) (arguments_of place.partner)) (sym (entry_args place.at inside.1)) inside.2) rest.each;
        differ = (subst (λ k. IsNone k (places_of rest.entries)) (sym here) before.0, rest.differ);
        held = ((place.partner, ap (slice_get all) here ∙ place.stands), before.1);
      }

pub paired : {fs gs : List Factor} → Agree fs gs → (c d : List Coordinate) → fs ≡ map as_factor c → gs ≡ map as_factor d → (p : PairTree) × Pairs ◌≡◌ c d p
paired e c d p q = of_found c d (same_length c d e p q) (entries_for e c d p (map Some d) (q ∙ sym (left_all d)) (within_at_first d))
