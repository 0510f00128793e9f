-- A coordinate of a term, at terms that act as holes, comes to what it is at the holes.
use Rattle.std.proofs.Common.{◌≡◌, ℕ, ◌+◌, ◌-◌, ◌<◌, ◌≤◌, ltb, if◌then◌else◌, ◌⊎◌, inl, inr, Bool, true, false, List, [], ◌∷◌, ◌++◌, map, length, take, drop, refl, sym, ap, ap₂, ◌∙◌, subst, subst₂, arith, Some, slice_get, zero, suc, lt-ltb, le-ltb}
use Rattle.type_core.specs.declared.ty.Ty.{Ty}
use Rattle.type_core.specs.declared.ty.Ty.TheVariants as ty
use Rattle.type_core.specs.declared.coordinate.Coordinate.{Coordinate}
use Rattle.type_core.specs.Coordinates.{arguments_of, atom, coordinate, coordinates, taking}
use Rattle.type_core.specs.Lists.{concatenated}
use Rattle.type_core.proofs.Trees.{coordinates_tup, coordinates_arrow}
use Rattle.iso_normal.proofs.Inverses.{at_map, of_map}
use Rattle.iso_normal.proofs.Permutations.{some_injective}
use Rattle.iso_normal.proofs.Taking.{arguments_made}
use Rattle.conv_terms.specs.declared.term.Term.{Term}
use Rattle.conv_terms.specs.declared.term.Term.TheVariants as term
use Rattle.conv_terms.specs.Substitution.{image, traversed}
use Rattle.conv_terms.proofs.Forms.{none_not}
use Rattle.conv_terms.proofs.Moving.{below_or_from}
use Rattle.conv_plain.specs.Functions.{abstractions, applied}
use Rattle.conv_plain.specs.CoordinateTypes.{coordinate_types}
use Rattle.conv_plain.specs.SplitJoin.{join, split, split_all}
use Rattle.conv_plain.proofs.Equations.{opened, split_atom, split_tup, split_arrow}
use Rattle.conv_plain.proofs.Lists.{take_drop}
use Rattle.conv_plain.proofs.Natural.{traversed_abstractions}
use Rattle.conv_plain.proofs.Opened.{after, after_opened, after_split}
use Rattle.conv_build.specs.direct.References.{Hole}
use Rattle.conv_build.specs.direct.LongSides.{spine}
use Rattle.conv_build.proofs.Reduction.{Reduces, applied_reduces}
use Rattle.conv_build.proofs.Equations.{Form, Forms, count_of_types, formed, spine_all, spine_atom, spine_tup, spine_arrow}
use Rattle.conv_build.proofs.Reading.{ActEach, acts_length, applied_append, arguments_taking, drop_acts, split_length, take_acts}
use Rattle.conv_build.proofs.Joining.{joins}

-- a function of many arguments, applied
pub many_reduce : (n : ℕ) (types : List Ty) (t : Term) (us : List Term) → length us ≡ length types → Reduces n (applied (abstractions types t) us) (after n us t)
many_reduce n [] t [] h = Reduces.same
many_reduce n [] t (u ∷ us) h = let no : ⊥ = omega (arith, h) in absurd no
many_reduce n (a ∷ types) t [] h = let no : ⊥ = omega (arith, h) in absurd no
many_reduce n (a ∷ types) t (u ∷ us) h =
    let less : length us ≡ length types = omega (arith, h) in
    let as_many : 0 + length types ≡ length us = omega (arith, h) in
    Reduces.chain (applied_reduces n (term.App (term.Lam a (abstractions types t)) u) (abstractions types (traversed (image n u) t (length us))) us
    (subst (Reduces n (term.App (term.Lam a (abstractions types t)) u)) (traversed_abstractions (image n u) types t 0 ∙ ap (λ m. abstractions types (traversed (image n u) t m)) as_many) (Reduces.beta a (abstractions types t) u)))
    (many_reduce n types (traversed (image n u) t (length us)) us less)

-- a step of the term whose coordinate it is
mutual
  spine_reduces : {t : Ty} → Form t → (place n : ℕ) (e f : Term) (holes : List Hole) → Reduces n e f → Reduces n (spine t place n e holes) (spine t place n f holes)
  spine_reduces (Form.atom t is _) place n e f holes k = subst₂ (Reduces n) (sym (spine_atom t is place n e holes)) (sym (spine_atom t is place n f holes)) k
  spine_reduces (Form.tup ts l fs) place n e f holes k = subst₂ (Reduces n) (sym (spine_tup ts place n e holes)) (sym (spine_tup ts place n f holes)) (spine_all_reduces fs place 1 (length ts) n e f holes k)
  spine_reduces (Form.arrow a b fa fb) place n e f holes k =
      subst₂ (Reduces n) (sym (spine_arrow a b place n e holes)) (sym (spine_arrow a b place n f holes)) (spine_reduces fb place n _ _ (drop (length (coordinates a)) holes) (Reduces.app k Reduces.same))

  spine_all_reduces : {ts : List Ty} → Forms ts → (place i count n : ℕ) (e f : Term) (holes : List Hole) → Reduces n e f → Reduces n (spine_all ts place i count n e holes) (spine_all ts place i count n f holes)
  spine_all_reduces Forms.none place i count n e f holes k = k
  spine_all_reduces (Forms.more t ts g gs) place i count n e f holes k =
      either (ltb place (length (coordinates t))) _ _ _ _ (spine_reduces g place n (term.Proj i count e) (term.Proj i count f) holes (Reduces.proj i count k)) (spine_all_reduces gs (place - length (coordinates t)) (i + 1) count n e f holes k)
    where
      either : (b : Bool) (x y z w : Term) → Reduces n x y → Reduces n z w → Reduces n (if b then x else z) (if b then y else w)
      either true x y z w k l = k
      either false x y z w k l = l

-- places in a list's first part, and in the rest
pub sooner : {A : Type 0} (xs ys : List A) (i : ℕ) → i < length xs → slice_get (xs ++ ys) i ≡ slice_get xs i
sooner [] ys i h = let no : ⊥ = omega (arith, h) in absurd no
sooner (x ∷ xs) ys zero h = refl
sooner (x ∷ xs) ys (suc i) h = let less : i < length xs = omega (arith, h) in sooner xs ys i less

pub later : {A : Type 0} (xs ys : List A) (i : ℕ) → length xs ≤ i → slice_get (xs ++ ys) i ≡ slice_get ys (i - length xs)
later [] ys i h = let e : i ≡ i - 0 = omega arith in ap (slice_get ys) e
later (x ∷ xs) ys zero h = let no : ⊥ = omega (arith, h) in absurd no
later (x ∷ xs) ys (suc i) h =
    let less : length xs ≤ i = omega (arith, h) in
    let e : i - length xs ≡ suc i - suc (length xs) = omega arith in
    later xs ys i less ∙ ap (slice_get ys) e

atom_place : (t : Ty) (i : ℕ) (c : Coordinate) → slice_get (atom t) i ≡ Some c → (i ≡ 0) × (arguments_of c ≡ [])
atom_place t zero c h = (refl, ap arguments_of (sym (some_injective (coordinate [] t) c h)) ∙ arguments_made [] t)
atom_place t (suc i) c h = absurd (none_not c h)

no_terms : {n : ℕ} {ts : List Term} {holes : List Hole} → ActEach n [] ts holes → ts ≡ []
no_terms ActEach.none = refl

-- a coordinate of a function, at the arguments that make the function's argument
at_function : (a b : Ty) → Form a → Form b → (n : ℕ) (e : Term) (i : ℕ) (f : Term) (ts : List Term) → length (take (length (coordinates a)) ts) ≡ length (coordinates a) → slice_get (split (ty.Arrow a b) n e) i ≡ Some f
    → (g : Term) × (slice_get (split b n (term.App e (join a n (take (length (coordinates a)) ts)))) i ≡ Some g) × Reduces n (applied f ts) (applied g (drop (length (coordinates a)) ts))
at_function a b fa fb n e i f ts l h = (after n us whole.0, place, reduces)
  where
    us : List Term
    us = take (length (coordinates a)) ts

    rest : List Term
    rest = drop (length (coordinates a)) ts

    types : List Ty
    types = coordinate_types a

    many : length us ≡ length types
    many = l ∙ sym (count_of_types a)

    inside : List Term
    inside = split b (n + length types) (opened a n e)

    whole : (g : Term) × (slice_get inside i ≡ Some g) × (abstractions types g ≡ f)
    whole = of_map (abstractions types) inside i f (sym (ap (λ x. slice_get x i) (split_arrow a b n e)) ∙ h)

    applied_inside : map (after n us) inside ≡ split b n (term.App e (join a n us))
    applied_inside =
        ap (λ m. map (after n us) (split b (n + m) (opened a n e))) (sym many) ∙ after_split (formed fb) n us (opened a n e) ∙ ap (split b n) (after_opened a (formed fa) n us e many)

    place : slice_get (split b n (term.App e (join a n us))) i ≡ Some (after n us whole.0)
    place = sym (ap (λ x. slice_get x i) applied_inside) ∙ at_map (after n us) inside i whole.0 whole.1

    reduces : Reduces n (applied f ts) (applied (after n us whole.0) rest)
    reduces = subst (λ x. Reduces n x (applied (after n us whole.0) rest))
        (sym (applied_append (abstractions types whole.0) us rest) ∙ ap₂ applied whole.2 (take_drop ts (length (coordinates a))))
        (applied_reduces n (applied (abstractions types whole.0) us) (after n us whole.0) rest (many_reduce n types whole.0 us many))

-- a coordinate of a tuple is one of the first component or one of the rest
at_component : (n : ℕ) (t : Ty) (ts : List Ty) → Form t → (e : Term) (place i count : ℕ) (c : Coordinate) (f : Term) → slice_get (coordinates t ++ concatenated (map coordinates ts)) place ≡ Some c
    → slice_get (split t n (term.Proj i count e) ++ split_all ts n (i + 1) count e) place ≡ Some f → (us : List Term) (holes : List Hole) → (place < length (coordinates t)) ⊎ (length (coordinates t) ≤ place)
    → (slice_get (coordinates t) place ≡ Some c → slice_get (split t n (term.Proj i count e)) place ≡ Some f → Reduces n (applied f us) (spine t place n (term.Proj i count e) holes))
    → (slice_get (concatenated (map coordinates ts)) (place - length (coordinates t)) ≡ Some c → slice_get (split_all ts n (i + 1) count e) (place - length (coordinates t)) ≡ Some f
    → Reduces n (applied f us) (spine_all ts (place - length (coordinates t)) (i + 1) count n e holes))
    → Reduces n (applied f us) (spine_all (t ∷ ts) place i count n e holes)
at_component n t ts g e place i count c f p q us holes (inl low) here there =
    subst (λ b. Reduces n (applied f us) (if b then spine t place n (term.Proj i count e) holes else spine_all ts (place - length (coordinates t)) (i + 1) count n e holes)) (sym (lt-ltb place (length (coordinates t)) low))
    (here (sym (sooner (coordinates t) (concatenated (map coordinates ts)) place low) ∙ p)
    (sym (sooner (split t n (term.Proj i count e)) (split_all ts n (i + 1) count e) place (subst (λ m. place < m) (sym (split_length g n (term.Proj i count e))) low)) ∙ q))
at_component n t ts g e place i count c f p q us holes (inr high) here there =
    subst (λ b. Reduces n (applied f us) (if b then spine t place n (term.Proj i count e) holes else spine_all ts (place - length (coordinates t)) (i + 1) count n e holes)) (sym (le-ltb place (length (coordinates t)) high))
    (there (sym (later (coordinates t) (concatenated (map coordinates ts)) place high) ∙ p)
    (ap (λ m. slice_get (split_all ts n (i + 1) count e) (place - m)) (sym (split_length g n (term.Proj i count e)))
    ∙ sym (later (split t n (term.Proj i count e)) (split_all ts n (i + 1) count e) place (subst (λ m. m ≤ place) (sym (split_length g n (term.Proj i count e))) high)) ∙ q))

mutual
  pub spines : {t : Ty} → Form t → (n : ℕ) (e : Term) (place : ℕ) (c : Coordinate) (f : Term) → slice_get (coordinates t) place ≡ Some c → slice_get (split t n e) place ≡ Some f
      → (us : List Term) (holes : List Hole) → ActEach n (arguments_of c) us holes → Reduces n (applied f us) (spine t place n e holes)
  spines (Form.atom t is _) n e place c f p q us holes k =
      let (first, no_arguments) = atom_place t place c (sym (ap (λ x. slice_get x place) is.plain.coordinates_are) ∙ p) in
      let none : us ≡ [] = no_terms (subst (λ x. ActEach n x us holes) no_arguments k) in
      let same : f ≡ e = some_injective f e (sym q ∙ ap (slice_get (split t n e)) first ∙ ap (λ x. slice_get x 0) (split_atom t is.plain n e)) in
      subst₂ (Reduces n) (ap₂ applied (sym same) (sym none)) (sym (spine_atom t is place n e holes)) Reduces.same
  spines (Form.tup ts l fs) n e place c f p q us holes k = subst (Reduces n (applied f us)) (sym (spine_tup ts place n e holes))
      (spines_all fs n e place 1 (length ts) c f (sym (ap (λ x. slice_get x place) (coordinates_tup ts)) ∙ p) (sym (ap (λ x. slice_get x place) (split_tup ts n e)) ∙ q) us holes k)
  spines (Form.arrow a b fa fb) n e place c f p q us holes k =
      let (d, at, is) = of_map (taking (coordinates a)) (coordinates b) place c (sym (ap (λ x. slice_get x place) (coordinates_arrow a b)) ∙ p) in
      let acts : ActEach n (coordinates a ++ arguments_of d) us holes = subst (λ x. ActEach n x us holes) (ap arguments_of (sym is) ∙ arguments_taking (coordinates a) d) k in
      let first : ActEach n (coordinates a) (take (length (coordinates a)) us) (take (length (coordinates a)) holes) = take_acts n (coordinates a) (arguments_of d) acts in
      let rest : ActEach n (arguments_of d) (drop (length (coordinates a)) us) (drop (length (coordinates a)) holes) = drop_acts n (coordinates a) (arguments_of d) acts in
      let (g, there, reduces) = at_function a b fa fb n e place f us (acts_length first) q in
      subst (Reduces n (applied f us)) (sym (spine_arrow a b place n e holes))
      (Reduces.chain reduces (Reduces.chain
      (spines fb n (term.App e (join a n (take (length (coordinates a)) us))) place d g at there (drop (length (coordinates a)) us) (drop (length (coordinates a)) holes) rest)
      (spine_reduces fb place n _ _ (drop (length (coordinates a)) holes) (Reduces.app Reduces.same (joins fa n (take (length (coordinates a)) us) (take (length (coordinates a)) holes) first)))))

  spines_all : {ts : List Ty} → Forms ts → (n : ℕ) (e : Term) (place i count : ℕ) (c : Coordinate) (f : Term) → slice_get (concatenated (map coordinates ts)) place ≡ Some c → slice_get (split_all ts n i count e) place ≡ Some f
      → (us : List Term) (holes : List Hole) → ActEach n (arguments_of c) us holes → Reduces n (applied f us) (spine_all ts place i count n e holes)
  spines_all Forms.none n e place i count c f p q us holes k = absurd (none_not c p)
  spines_all (Forms.more t ts g gs) n e place i count c f p q us holes k = at_component n t ts g e place i count c f p q us holes (below_or_from place (length (coordinates t)))
      (λ at there. spines g n (term.Proj i count e) place c f at there us holes k)
      (λ at there. spines_all gs n e (place - length (coordinates t)) (i + 1) count c f at there us holes k)
