-- What tops of coordinates are reduced to.
use Rattle.std.proofs.Common.{◌≡◌, ◌<◌, ◌+◌, ℕ, List, [], ◌∷◌, ◌++◌, Some, map, length, slice_get, refl, sym, ap, ap₂, ◌∙◌, subst, arith, inl, inr, length-append}
use Rattle.std.proofs.lemmas.Option.{slice_get_within, get_or_from_slice_get}
use Rattle.type_core.specs.declared.ty.Ty.{Ty}
use Rattle.type_core.specs.declared.ty.Ty.TheVariants as ty
use Rattle.type_intern.specs.declared.node.TyId.{TyId}
use Rattle.type_intern.specs.declared.node.CoordId.{CoordId}
use Rattle.type_intern.specs.declared.node.CoordNode.{CoordNode}
use Rattle.type_intern.specs.Numbering.{AllBelow, Grows, StandsOnce}
use Rattle.type_intern.specs.Sorting.{insert_number, sorted}
use Rattle.type_intern.specs.Tops.{numbers_of, type_at}
use Rattle.type_intern.specs.CoordTables.{AreReduced, IsReduced, IsReducedAt, number_at}
use Rattle.type_intern.proofs.Places.{below_weaker, get_append, get_last, get_push, get_within, grows_push, stays}
use Rattle.type_intern.proofs.CoordTops.{numbers_same, numbers_stay}
use Rattle.type_intern.proofs.Sorting.{sorted_twice, sorted_values}

pub reduced_unique : (seen : Ty → Ty) (types : List Ty) (numbers : List ℕ) (n x y : CoordNode) → StandsOnce types
    → IsReduced seen types numbers n x → IsReduced seen types numbers n y → x ≡ y
reduced_unique seen types numbers n x y once p q =
    let heads : x.head ≡ y.head = ap (λ (m : ℕ). record { 0 = m }) (once x.head.0 y.head.0 _ p.head q.head) in
    ap₂ (λ (a : List CoordId) (h : TyId). record { args = a; head = h })
    (numbers_same x.args y.args (p.args ∙ sym q.args)) heads

pub reduced_stays : (seen : Ty → Ty) (types : List Ty) (numbers more : List ℕ) (n x : CoordNode) → Grows numbers more
    → AllBelow (length numbers) (numbers_of n.args) → IsReduced seen types numbers n x → IsReduced seen types more n x
reduced_stays seen types numbers more n x g h p = record {
  args = p.args ∙ sym (ap sorted (numbers_stay numbers more g n.args h));
  head = p.head;
}

-- beside each of these numbers it stands itself
abbrev pub AreOwn : List ℕ → List ℕ → Type 0
AreOwn numbers [] = Unit {0}
AreOwn numbers (k ∷ ks) = (slice_get numbers k ≡ Some k) × AreOwn numbers ks

own_inserted : (numbers : List ℕ) (k : ℕ) (ks : List ℕ) → slice_get numbers k ≡ Some k → AreOwn numbers ks
    → AreOwn numbers (insert_number k ks)
own_inserted numbers k ks own others = sorted_values (λ m. slice_get numbers m ≡ Some m) (AreOwn numbers) tt
    (λ m ms p q. (p, q)) (λ m ms p. p) k ks own others

own_sorted : (numbers ks : List ℕ) → AreOwn numbers ks → AreOwn numbers (sorted ks)
own_sorted numbers [] own = tt
own_sorted numbers (k ∷ ks) own = own_inserted numbers k (sorted ks) own.0 (own_sorted numbers ks own.1)

own_numbers : (numbers : List ℕ) (ids : List CoordId) → AreOwn numbers (numbers_of ids)
    → map (number_at numbers) ids ≡ numbers_of ids
own_numbers numbers [] own = refl
own_numbers numbers (id ∷ ids) own = ap₂ ◌∷◌ (get_or_from_slice_get numbers id.0 id.0 0 own.0)
    (own_numbers numbers ids own.1)

-- the numbers of what own numbers of another list are, in their order
pub sorted_own : (numbers ms : List ℕ) (ids : List CoordId) → numbers_of ids ≡ sorted ms → AreOwn numbers ms
    → numbers_of ids ≡ sorted (map (number_at numbers) ids)
sorted_own numbers ms ids is own =
    is ∙ sym (ap sorted (own_numbers numbers ids (subst (AreOwn numbers) (sym is) (own_sorted numbers ms own)) ∙ is) ∙
    sorted_twice ms)

-- what has own numbers in their order and a head that is seen as it is, is reduced to itself
pub reduced_to_itself : (seen : Ty → Ty) (types : List Ty) (numbers ms : List ℕ) (x : CoordNode)
    → numbers_of x.args ≡ sorted ms → AreOwn numbers ms → slice_get types x.head.0 ≡ Some (seen (type_at types x.head))
    → IsReduced seen types numbers x x
reduced_to_itself seen types numbers ms x is own head = record {
  args = sorted_own numbers ms x.args is own;
  head = head;
}

-- a head that was seen is seen as it is
pub seen_head : (seen : Ty → Ty) → ((t : Ty) → seen (seen t) ≡ seen t) → (types : List Ty) (h : TyId) (t : Ty)
    → slice_get types h.0 ≡ Some (seen t) → slice_get types h.0 ≡ Some (seen (type_at types h))
seen_head seen twice types h t at = at ∙ ap Some (sym (twice t) ∙ sym
    (ap seen (get_or_from_slice_get types h.0 _ (ty.Tup []) at)))

module _ (seen : Ty → Ty) (types : List Ty) (nodes : List CoordNode) (numbers : List ℕ)
    (reduced : AreReduced seen types nodes numbers) where
  pub number_stands : (id : CoordId) → id.0 < length nodes → slice_get numbers id.0 ≡ Some (number_at numbers id)
  number_stands id l =
      let there = get_within numbers id.0 (omega (arith, reduced.long)) in
      there.1 ∙ ap Some (sym (get_or_from_slice_get numbers id.0 there.0 0 there.1))

  pub are_own : (ids : List CoordId) → AllBelow (length nodes) (numbers_of ids)
      → AreOwn numbers (map (number_at numbers) ids)
  are_own [] h = tt
  are_own (id ∷ ids) h = (reduced.own id.0 _ (number_stands id h.0), are_own ids h.1)

  pub numbers_below : (ids : List CoordId) → AllBelow (length nodes) (numbers_of ids)
      → AllBelow (length nodes) (map (number_at numbers) ids)
  numbers_below [] h = tt
  numbers_below (id ∷ ids) h = (
    omega (arith, h.0, reduced.no_later id.0 _ (number_stands id h.0)),
    numbers_below ids h.1,
  )

  -- what is reduced to itself has its own number
  pub own_number : StandsOnce types → StandsOnce nodes → (x : CoordNode) (k : ℕ) → slice_get nodes k ≡ Some x
      → IsReduced seen types numbers x x → slice_get numbers k ≡ Some k
  own_number types_once once x k at itself =
      let beside = get_within numbers k (omega (arith, reduced.long, slice_get_within nodes k x at)) in
      let there = reduced.reduced k x beside.0 at beside.1 in
      let same : there.0 ≡ x = reduced_unique seen types numbers x there.0 x types_once there.2 itself in
      beside.1 ∙ ap Some (once beside.0 k x (there.1 ∙ ap Some same) at)

  -- one more top, with the number of what it is reduced to
  pub push_reduced : (n : CoordNode) (k : ℕ)
      → ((i : ℕ) (m : CoordNode) → slice_get nodes i ≡ Some m → AllBelow i (numbers_of m.args))
      → IsReducedAt seen types (nodes ++ n ∷ []) (numbers ++ k ∷ []) n k
      → AreReduced seen types (nodes ++ n ∷ []) (numbers ++ k ∷ [])
  push_reduced n k fits at = record {
    long = simp length-append (omega (arith, reduced.long));
    reduced = λ i m j p q. elim (get_push nodes n i m p) [
      | inl p ↦
          let within : i < length nodes = slice_get_within nodes i m p in
          elim (get_push numbers k i j q) [
            | inl q ↦
                let x = reduced.reduced i m j p q in (
                  x.0,
                  get_append nodes _ j x.0 x.1,
                  reduced_stays seen types numbers _ m x.0 (grows_push numbers k)
                      (below_weaker i (length numbers) _ (omega (arith, reduced.long)) (fits i m p)) x.2,
                )
            | inr q ↦ absurd (omega (arith, reduced.long, q.0))
          ]
      | inr p ↦ elim (get_push numbers k i j q) [
        | inl q ↦ absurd (omega (arith, reduced.long, p.0, slice_get_within numbers i j q))
        | inr q ↦ (
          at.to,
          subst (λ z. slice_get (nodes ++ n ∷ []) z ≡ Some at.to) q.1 at.stands,
          subst (λ (z : CoordNode). IsReduced seen types (numbers ++ k ∷ []) z at.to) p.1 at.reduced,
        )
      ]
    ];
    no_later = λ i j q. elim (get_push numbers k i j q) [
      | inl q ↦ reduced.no_later i j q
      | inr q ↦ let within : k < length nodes + 1 = subst (λ z. k < z) (simp length-append refl)
          (slice_get_within (nodes ++ n ∷ []) k at.to at.stands) in omega (arith, reduced.long, q.0, q.1, within)
    ];
    own = λ i j q. elim (get_push numbers k i j q) [
      | inl q ↦ get_append numbers _ j j (reduced.own i j q)
      | inr q ↦ subst (λ z. slice_get (numbers ++ k ∷ []) z ≡ Some z) q.1 at.own
    ];
  }

pub reduced_at_stays : (seen : Ty → Ty) (types : List Ty) (nodes others : List CoordNode) (numbers more : List ℕ)
    (n : CoordNode) (k : ℕ)
    → Grows nodes others → Grows numbers more → AllBelow (length numbers) (numbers_of n.args)
    → IsReducedAt seen types nodes numbers n k → IsReducedAt seen types others more n k
reduced_at_stays seen types nodes others numbers more n k g h below at = record {
  to = at.to;
  stands = stays nodes others g k at.to at.stands;
  reduced = reduced_stays seen types numbers more n at.to h below at.reduced;
  own = stays numbers more h k k at.own;
}

-- what is reduced to itself, put last
pub own_reduction : (seen : Ty → Ty) (types : List Ty) (nodes : List CoordNode) (numbers : List ℕ) (x : CoordNode)
    (k : ℕ)
    → k ≡ length nodes → length numbers ≡ length nodes → AllBelow (length numbers) (numbers_of x.args)
    → IsReduced seen types numbers x x → IsReducedAt seen types (nodes ++ x ∷ []) (numbers ++ k ∷ []) x k
own_reduction seen types nodes numbers x k last long below itself = record {
  to = x;
  stands = ap (slice_get (nodes ++ x ∷ [])) last ∙ get_last nodes x;
  reduced = reduced_stays seen types numbers (numbers ++ k ∷ []) x x (grows_push numbers k) below itself;
  own = ap (slice_get (numbers ++ k ∷ [])) (last ∙ sym long) ∙ get_last numbers k;
}
