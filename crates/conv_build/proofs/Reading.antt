-- References read terms, and a term acts as a hole.
use Rattle.std.proofs.Common.{◌≡◌, ℕ, ◌+◌, ◌<◌, ◌≤◌, List, [], ◌∷◌, ◌++◌, map, length, take, drop, refl, sym, ap, ap₂, ◌∙◌, subst, subst₂, arith, Some, slice_get, zero, suc}
use Rattle.std.proofs.lemmas.List.{length-append, length-map}
use Rattle.type_core.specs.declared.ty.Ty.{Ty}
use Rattle.type_core.specs.declared.coordinate.Coordinate.{Coordinate}
use Rattle.type_core.specs.Coordinates.{arguments_of, coordinates, head_of, taking}
use Rattle.type_core.specs.Lists.{concatenated}
use Rattle.type_core.proofs.Trees.{coordinates_tup, coordinates_arrow}
use Rattle.iso_normal.proofs.Taking.{arguments_made}
use Rattle.conv_terms.specs.declared.term.Term.{Term}
use Rattle.conv_terms.specs.declared.term.Term.TheVariants as term
use Rattle.conv_terms.specs.Shifting.{shifted}
use Rattle.conv_terms.proofs.Equations.{shifted_var, shifted_app}
use Rattle.conv_terms.proofs.Forms.{none_not}
use Rattle.conv_terms.proofs.Moving.{raised_low, shifted_twice}
use Rattle.conv_plain.specs.Functions.{applied}
use Rattle.conv_plain.specs.SplitJoin.{applied_each, split, split_all}
use Rattle.conv_plain.proofs.Equations.{split_atom, split_tup, split_arrow}
use Rattle.conv_plain.proofs.Natural.{split_shifted}
use Rattle.conv_build.specs.direct.References.{Hole, Reference, given, references, references_from}
use Rattle.conv_build.proofs.Reduction.{Reduces}
use Rattle.conv_build.proofs.Equations.{Form, Forms, formed}

-- in a context of so many variables, the references are to these coordinates, and stand for these terms
pub data Reads : ℕ → List Coordinate → List Reference → List Term → Type 0 where
  none : {n : ℕ} → Reads n [] [] []
  more : {n : ℕ} {c : Coordinate} {cs : List Coordinate} {u : Term} {us : List Term} {rs : List Reference} (v : ℕ) (a : Ty) (i : ℕ) → v < n → Form a → slice_get (coordinates a) i ≡ Some c → slice_get (split a n (term.Var v)) i ≡ Some u → Reads n cs rs us
      → Reads n (c ∷ cs) (record { level = v; type = a; place = i } ∷ rs) (u ∷ us)

-- in every longer context the term, at arguments that references stand for, comes to what the hole is at these
abbrev pub Acts : ℕ → Coordinate → Term → Hole → Type 0
Acts n c t hole = (j : ℕ) (rs : List Reference) (us : List Term) → Reads (n + j) (arguments_of c) rs us → Reduces (n + j) (applied (shifted n j t) us) (hole (n + j) rs)

-- each of the terms acts as its hole
pub data ActEach : ℕ → List Coordinate → List Term → List Hole → Type 0 where
  none : {n : ℕ} → ActEach n [] [] []
  more : {n : ℕ} {c : Coordinate} {cs : List Coordinate} {t : Term} {ts : List Term} {hole : Hole} {holes : List Hole} → Acts n c t hole → ActEach n cs ts holes → ActEach n (c ∷ cs) (t ∷ ts) (hole ∷ holes)

pub reads_length : {n : ℕ} {cs : List Coordinate} {rs : List Reference} {us : List Term} → Reads n cs rs us → (length rs ≡ length cs) × (length us ≡ length cs)
reads_length Reads.none = (refl, refl)
reads_length (Reads.more v a i less f p q k) = (ap suc (reads_length k).0, ap suc (reads_length k).1)

pub acts_length : {n : ℕ} {cs : List Coordinate} {ts : List Term} {holes : List Hole} → ActEach n cs ts holes → length ts ≡ length cs
acts_length ActEach.none = refl
acts_length (ActEach.more k ks) = ap suc (acts_length ks)

pub take_acts : (n : ℕ) (cs ds : List Coordinate) {ts : List Term} {holes : List Hole} → ActEach n (cs ++ ds) ts holes → ActEach n cs (take (length cs) ts) (take (length cs) holes)
take_acts n [] ds k = ActEach.none
take_acts n (c ∷ cs) ds (ActEach.more k ks) = ActEach.more k (take_acts n cs ds ks)

pub drop_acts : (n : ℕ) (cs ds : List Coordinate) {ts : List Term} {holes : List Hole} → ActEach n (cs ++ ds) ts holes → ActEach n ds (drop (length cs) ts) (drop (length cs) holes)
drop_acts n [] ds k = k
drop_acts n (c ∷ cs) ds (ActEach.more k ks) = drop_acts n cs ds ks

-- place by place
pub acts_from_places : (n : ℕ) (cs : List Coordinate) (ts : List Term) (holes : List Hole) → length ts ≡ length cs → length holes ≡ length cs
    → ((k : ℕ) (c : Coordinate) (t : Term) (hole : Hole) → slice_get cs k ≡ Some c → slice_get ts k ≡ Some t → slice_get holes k ≡ Some hole → Acts n c t hole) → ActEach n cs ts holes
acts_from_places n [] [] [] p q h = ActEach.none
acts_from_places n [] (t ∷ ts) holes p q h = let no : ⊥ = omega (arith, p) in absurd no
acts_from_places n [] [] (hole ∷ holes) p q h = let no : ⊥ = omega (arith, q) in absurd no
acts_from_places n (c ∷ cs) [] holes p q h = let no : ⊥ = omega (arith, p) in absurd no
acts_from_places n (c ∷ cs) (t ∷ ts) [] p q h = let no : ⊥ = omega (arith, q) in absurd no
acts_from_places n (c ∷ cs) (t ∷ ts) (hole ∷ holes) p q h =
    let one : length ts ≡ length cs = omega (arith, p) in
    let two : length holes ≡ length cs = omega (arith, q) in
    ActEach.more (h 0 c t hole refl refl refl) (acts_from_places n cs ts holes one two (λ k. h (suc k)))

-- as many terms as coordinates
mutual
  pub split_length : {t : Ty} → Form t → (n : ℕ) (e : Term) → length (split t n e) ≡ length (coordinates t)
  split_length (Form.atom t is k) n e = ap length (split_atom t is.plain n e) ∙ sym (ap length is.plain.coordinates_are)
  split_length (Form.tup ts l fs) n e = ap length (split_tup ts n e) ∙ split_all_length fs n 1 (length ts) e ∙ sym (ap length (coordinates_tup ts))
  split_length (Form.arrow a b fa fb) n e =
      ap length (split_arrow a b n e) ∙ length-map _ _ ∙ split_length fb _ _ ∙ sym (length-map (coordinates b) (taking (coordinates a))) ∙ sym (ap length (coordinates_arrow a b))

  split_all_length : {ts : List Ty} → Forms ts → (n i count : ℕ) (e : Term) → length (split_all ts n i count e) ≡ length (concatenated (map coordinates ts))
  split_all_length Forms.none n i count e = refl
  split_all_length (Forms.more t ts f fs) n i count e =
      length-append (split t n (term.Proj i count e)) (split_all ts n (i + 1) count e) ∙ ap₂ ◌+◌ (split_length f n (term.Proj i count e)) (split_all_length fs n (i + 1) count e)
      ∙ sym (length-append (coordinates t) (concatenated (map coordinates ts)))

-- the coordinates of a variable
reads_from : (n v : ℕ) (a : Ty) → v < n → Form a → (cs : List Coordinate) (us : List Term) (i count : ℕ) → length cs ≡ count → length us ≡ count → ((k : ℕ) (c : Coordinate) → slice_get cs k ≡ Some c → slice_get (coordinates a) (i + k) ≡ Some c)
    → ((k : ℕ) (u : Term) → slice_get us k ≡ Some u → slice_get (split a n (term.Var v)) (i + k) ≡ Some u) → Reads n cs (references_from v a i count) us
reads_from n v a less f [] [] i zero p q g h = Reads.none
reads_from n v a less f (c ∷ cs) (u ∷ us) i (suc count) p q g h =
    let zero_right : i + 0 ≡ i = omega arith in
    let fewer : length cs ≡ count = omega (arith, p) in
    let as_few : length us ≡ count = omega (arith, q) in
    let next : (k : ℕ) → i + suc k ≡ i + 1 + k = (λ k. omega arith) in
    Reads.more v a i less f (sym (ap (slice_get (coordinates a)) zero_right) ∙ g 0 c refl) (sym (ap (slice_get (split a n (term.Var v))) zero_right) ∙ h 0 u refl)
    (reads_from n v a less f cs us (i + 1) count fewer as_few (λ k c p. sym (ap (slice_get (coordinates a)) (next k)) ∙ g (suc k) c p) (λ k u p. sym (ap (slice_get (split a n (term.Var v))) (next k)) ∙ h (suc k) u p))
reads_from n v a less f [] us i (suc count) p q g h = let no : ⊥ = omega (arith, p) in absurd no
reads_from n v a less f (c ∷ cs) us i zero p q g h = let no : ⊥ = omega (arith, p) in absurd no
reads_from n v a less f cs (u ∷ us) i zero p q g h = let no : ⊥ = omega (arith, q) in absurd no
reads_from n v a less f cs [] i (suc count) p q g h = let no : ⊥ = omega (arith, q) in absurd no

pub reads_variable : (n v : ℕ) (a : Ty) → v < n → Form a → Reads n (coordinates a) (references v a) (split a n (term.Var v))
reads_variable n v a less f = reads_from n v a less f (coordinates a) (split a n (term.Var v)) 0 (length (coordinates a)) refl (split_length f n (term.Var v))
    (λ k c p. ap (slice_get (coordinates a)) (zero_left k) ∙ p) (λ k u p. ap (slice_get (split a n (term.Var v))) (zero_left k) ∙ p)
  where
    zero_left : (k : ℕ) → 0 + k ≡ k
    zero_left k = omega arith

reads_append : {n : ℕ} {cs ds : List Coordinate} {rs ss : List Reference} {us vs : List Term} → Reads n cs rs us → Reads n ds ss vs → Reads n (cs ++ ds) (rs ++ ss) (us ++ vs)
reads_append Reads.none l = l
reads_append (Reads.more v a i less f p q k) l = Reads.more v a i less f p q (reads_append k l)

pub applied_append : (f : Term) (us vs : List Term) → applied f (us ++ vs) ≡ applied (applied f us) vs
applied_append f [] vs = refl
applied_append f (u ∷ us) vs = applied_append (term.App f u) us vs

pub shifted_applied : (from by : ℕ) (f : Term) (es : List Term) → shifted from by (applied f es) ≡ applied (shifted from by f) (map (shifted from by) es)
shifted_applied from by f [] = refl
shifted_applied from by f (e ∷ es) = shifted_applied from by (term.App f e) es ∙ ap (λ x. applied x (map (shifted from by) es)) (shifted_app from by f e)

pub arguments_taking : (first : List Coordinate) (c : Coordinate) → arguments_of (taking first c) ≡ first ++ arguments_of c
arguments_taking first c = arguments_made (first ++ arguments_of c) (head_of c)

-- a term at the coordinates of the last variable
acts_given : (n : ℕ) (a : Ty) → Form a → (c : Coordinate) (t : Term) (hole : Hole) → Acts n (taking (coordinates a) c) t hole → Acts (n + 1) c (applied (shifted n 1 t) (split a (n + 1) (term.Var n))) (given (references n a) hole)
acts_given n a f c t hole acts = λ j rs us k.
    let sum : n + (1 + j) ≡ n + 1 + j = omega arith in
    let less : n < n + 1 + j = omega arith in
    let low : n ≤ n + 1 = omega arith in
    let high : n + 1 ≤ n + 1 = omega arith in
    let below : n < n + 1 = omega arith in
    let reads : Reads (n + 1 + j) (coordinates a ++ arguments_of c) (references n a ++ rs) (split a (n + 1 + j) (term.Var n) ++ us) = reads_append (reads_variable (n + 1 + j) n a less f) k in
    let whole : Reduces (n + 1 + j) (applied (shifted n (1 + j) t) (split a (n + 1 + j) (term.Var n) ++ us)) (hole (n + 1 + j) (references n a ++ rs))
    = subst (λ m. Reduces m (applied (shifted n (1 + j) t) (split a (n + 1 + j) (term.Var n) ++ us)) (hole m (references n a ++ rs))) sum
    (acts (1 + j) (references n a ++ rs) (split a (n + 1 + j) (term.Var n) ++ us) (subst₂ (λ m cs. Reads m cs (references n a ++ rs) (split a (n + 1 + j) (term.Var n) ++ us)) (sym sum) (sym (arguments_taking (coordinates a) c)) reads)) in
    subst (λ x. Reduces (n + 1 + j) x (hole (n + 1 + j) (references n a ++ rs)))
    (applied_append (shifted n (1 + j) t) (split a (n + 1 + j) (term.Var n)) us
    ∙ ap (λ x. applied x us) (sym (shifted_applied (n + 1) j (shifted n 1 t) (split a (n + 1) (term.Var n))
    ∙ ap₂ applied (shifted_twice n 1 (n + 1) j t low high) (split_shifted (formed f) (n + 1) j (term.Var n) ∙ ap (split a (n + 1 + j)) (shifted_var (n + 1) j n ∙ ap term.Var (raised_low (n + 1) j n below))))))
    whole

pub act_each_given : (n : ℕ) (a : Ty) → Form a → (cs : List Coordinate) {ts : List Term} {holes : List Hole} → ActEach n (map (taking (coordinates a)) cs) ts holes
    → ActEach (n + 1) cs (applied_each n (split a (n + 1) (term.Var n)) ts) (map (given (references n a)) holes)
act_each_given n a f [] ActEach.none = ActEach.none
act_each_given n a f (c ∷ cs) (ActEach.more {t = t} {hole = hole} k ks) = ActEach.more (acts_given n a f c t hole k) (act_each_given n a f cs ks)

-- the term that a reference stands for
pub record ReadAt (n : ℕ) (c : Coordinate) (r : Reference) (u : Term) : Type 0 where
  pub level : ℕ
  pub type : Ty
  pub place : ℕ
  pub low : level < n
  pub form : Form type
  pub coordinate : slice_get (coordinates type) place ≡ Some c
  pub term : slice_get (split type n (term.Var level)) place ≡ Some u
  pub is : r ≡ record { level = level; type = type; place = place }

pub read_at : {n : ℕ} {cs : List Coordinate} {rs : List Reference} {us : List Term} → Reads n cs rs us → (i : ℕ) (c : Coordinate) → slice_get cs i ≡ Some c → (r : Reference) × (u : Term) × (slice_get rs i ≡ Some r) × (slice_get us i ≡ Some u) × ReadAt n c r u
read_at Reads.none i c h = absurd (none_not c h)
read_at (Reads.more {c = d} {u = u} v a p less f q m k) zero c h = (
  record { level = v; type = a; place = p },
  u,
  refl,
  refl,
  record { level = v; type = a; place = p; low = less; form = f; coordinate = q ∙ h; term = m; is = refl },
)
read_at (Reads.more v a p less f q m k) (suc i) c h = read_at k i c h
