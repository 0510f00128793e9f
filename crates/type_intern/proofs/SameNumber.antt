-- Coordinates are reduced to one number exactly where they are alike.
use Rattle.std.proofs.Common.{◌≡◌, ◌<◌, ℕ, suc, zero, List, [], ◌∷◌, Some, map, length, slice_get, refl, sym, ap, ap₂, ◌∙◌, subst, subst₂, arith}
use Rattle.std.proofs.lemmas.Option.{same_Some, slice_get-get_or}
use Rattle.type_core.specs.declared.ty.Ty.{Ty}
use Rattle.type_core.specs.declared.coordinate.Coordinate.{Coordinate}
use Rattle.type_core.specs.Coordinates.{arguments_of, head_of}
use Rattle.type_intern.specs.declared.node.CoordId.{CoordId}
use Rattle.type_intern.specs.declared.node.CoordNode.{CoordNode}
use Rattle.type_intern.specs.declared.node.TyId.{TyId}
use Rattle.type_intern.specs.Alike.{AreAlike, IsAlike, Takes, alike, more, none}
use Rattle.type_intern.specs.Numbering.{AllBelow, StandsOnce}
use Rattle.type_intern.specs.Sorting.{insert_number, sorted}
use Rattle.type_intern.specs.Tables.{IsTableOf}
use Rattle.type_intern.specs.Tops.{coord_at, coords_at, numbers_of, type_at}
use Rattle.type_intern.specs.CoordTables.{AreReduced, CoordFits, IsReduced, coord_of, coords_of, number_at}
use Rattle.type_intern.proofs.CoordTops.{arguments_made, head_made, numbers_same}
use Rattle.type_intern.proofs.Places.{below_weaker, get_within}
use Rattle.type_intern.proofs.Placing.{tops_once}
use Rattle.type_intern.proofs.Reductions.{number_stands}
use Rattle.type_intern.proofs.Sorting.{Taken, below_taken, sorted_first, sorted_none, sorted_takes, takes_from_map, takes_map}

module _ (seen : Ty → Ty) (types : List Ty) (ns : List CoordNode) (numbers : List ℕ) (types_once : StandsOnce types)
    (table : IsTableOf (coord_of types) (CoordFits (length types)) ns (coords_of types ns))
    (reduced : AreReduced seen types ns numbers) where
  abbrev coords : List Coordinate
  coords = coords_of types ns

  -- a coordinate with its top, and what this is reduced to
  record Placed (c : CoordId) : Type 0 where
    top : CoordNode
    parts : AllBelow c.0 (numbers_of top.args)
    arguments : arguments_of (coord_at coords c) ≡ coords_at coords top.args
    heads : head_of (coord_at coords c) ≡ type_at types top.head
    to : CoordNode
    stands : slice_get ns (number_at numbers c) ≡ Some to
    is_reduced : IsReduced seen types numbers top to

  placed : (c : CoordId) → c.0 < length coords → Placed c
  placed c l =
      let there = get_within ns c.0 (omega (arith, l, table.long)) in
      let to = reduced.reduced c.0 there.0 (number_at numbers c) there.1
      (number_stands seen types ns numbers reduced c (omega (arith, l, table.long))) in
      let is : coord_at coords c ≡ coord_of types coords there.0 = same_Some _ _
      (sym (slice_get-get_or coords c.0 _ l) ∙ table.reads c.0 there.0 there.1) in
      record {
        top = there.0;
        parts = (table.fits c.0 there.0 there.1).0;
        arguments = ap arguments_of is ∙ arguments_made _ _;
        heads = ap head_of is ∙ head_made _ _;
        to = to.0;
        stands = to.1;
        is_reduced = to.2;
      }

  longer_parts : (i : ℕ) (ids : List ℕ) → i < length coords → AllBelow i ids → AllBelow (length coords) ids
  longer_parts i ids l h = below_weaker i (length coords) ids (omega arith) h

  mutual
    number_from_alike : {c d : Coordinate} → IsAlike seen c d → (i j : CoordId) → i.0 < length coords
        → j.0 < length coords → coord_at coords i ≡ c → coord_at coords j ≡ d
        → number_at numbers i ≡ number_at numbers j
    number_from_alike (alike {c = c} {d = d} heads arguments) i j l m e f =
        let p = placed i l in
        let q = placed j m in
        let same_heads : p.to.head ≡ q.to.head = ap (λ (n : ℕ). record { 0 = n })
        (types_once p.to.head.0 q.to.head.0 (seen (type_at types q.top.head))
        (p.is_reduced.head ∙ ap Some (ap seen (sym p.heads ∙ ap head_of e) ∙ heads ∙ ap seen
        (sym (ap head_of f) ∙ q.heads))) q.is_reduced.head) in
        let same_args : sorted (map (number_at numbers) p.top.args) ≡ sorted (map (number_at numbers) q.top.args) =
        numbers_from_alike arguments p.top.args q.top.args (sym p.arguments ∙ ap arguments_of e)
        (sym q.arguments ∙ ap arguments_of f) (longer_parts i.0 _ l p.parts) (longer_parts j.0 _ m q.parts) in
        let same : p.to ≡ q.to = ap₂ (λ (a : List CoordId) (h : TyId). record { args = a; head = h })
        (numbers_same p.to.args q.to.args (p.is_reduced.args ∙ same_args ∙ sym q.is_reduced.args)) same_heads in
        tops_once (coord_of types) (CoordFits (length types)) ns coords table (number_at numbers i)
        (number_at numbers j) q.to (p.stands ∙ ap Some same) q.stands

    numbers_from_alike : {xs ys : List Coordinate} → AreAlike seen xs ys → (is js : List CoordId)
        → coords_at coords is ≡ xs → coords_at coords js ≡ ys → AllBelow (length coords) (numbers_of is)
        → AllBelow (length coords) (numbers_of js)
        → sorted (map (number_at numbers) is) ≡ sorted (map (number_at numbers) js)
    numbers_from_alike none [] [] e f p q = refl
    numbers_from_alike none [] (j ∷ js) e f p q = cc f
    numbers_from_alike none (i ∷ is) js e f p q = cc e
    numbers_from_alike (more takes first others) [] js e f p q = cc e
    numbers_from_alike (more {c = c} {d = d} {cs = xs} {ds = ys} {rest = rest} takes first others) (i ∷ is) js e f p q =
        let here : coord_at coords i ≡ c = cc e in
        let tail : coords_at coords is ≡ xs = cc e in
        let t : Taken (coord_at coords) d js rest = takes_from_map (coord_at coords) d js rest
        (subst (λ s. Takes d s rest) (sym f) takes) in
        let below = below_taken (length coords) t.one js t.left t.takes q in
        ap₂ insert_number (number_from_alike first i t.one p.0 below.0 here t.is)
        (numbers_from_alike others is t.left tail t.others p.1 below.1)
        ∙ sym (sorted_takes (number_at numbers t.one) (map (number_at numbers) js) (map (number_at numbers) t.left)
        (takes_map (number_at numbers) t.one js t.left t.takes))

  -- arguments below n with the same numbers are alike, where single ones are
  all_alike : (n : ℕ)
      → ((i j : CoordId) → i.0 < n → j.0 < length coords → number_at numbers i ≡ number_at numbers j → IsAlike seen
      (coord_at coords i) (coord_at coords j))
      → (is js : List CoordId) → AllBelow n (numbers_of is) → AllBelow (length coords) (numbers_of js)
      → sorted (map (number_at numbers) is) ≡ sorted (map (number_at numbers) js)
      → AreAlike seen (coords_at coords is) (coords_at coords js)
  all_alike n single [] [] p q e = none
  all_alike n single [] (j ∷ js) p q e = let f : map (number_at numbers) (j ∷ js) ≡ [] = sorted_none _ e in cc f
  all_alike n single (i ∷ is) js p q e =
      let first = sorted_first (number_at numbers i) (map (number_at numbers) is) (map (number_at numbers) js) e in
      let t : Taken (number_at numbers) (number_at numbers i) js first.0 = takes_from_map (number_at numbers)
      (number_at numbers i) js first.0 first.1 in
      let below = below_taken (length coords) t.one js t.left t.takes q in
      more (takes_map (coord_at coords) t.one js t.left t.takes) (single i t.one p.0 below.0 (sym t.is))
      (all_alike n single is t.left p.1 below.1 (first.2 ∙ ap sorted (sym t.others)))

  alike_below : (n : ℕ) (i j : CoordId) → i.0 < n → i.0 < length coords → j.0 < length coords
      → number_at numbers i ≡ number_at numbers j → IsAlike seen (coord_at coords i) (coord_at coords j)
  alike_below zero i j k l m same = absurd (omega arith)
  alike_below (suc n) i j k l m same =
      let p = placed i l in
      let q = placed j m in
      let tops : p.to ≡ q.to = same_Some _ _ (sym p.stands ∙ ap (slice_get ns) same ∙ q.stands) in
      let heads : seen (type_at types p.top.head) ≡ seen (type_at types q.top.head) = same_Some _ _
      (sym p.is_reduced.head ∙ ap (λ (x : CoordNode). slice_get types x.head.0) tops ∙ q.is_reduced.head) in
      alike (ap seen p.heads ∙ heads ∙ ap seen (sym q.heads))
      (subst₂ (AreAlike seen) (sym p.arguments) (sym q.arguments)
      (all_alike i.0 (λ a b la lb e. alike_below n a b (omega (arith, la, k)) (omega (arith, la, l)) lb e) p.top.args
      q.top.args p.parts (longer_parts j.0 _ m q.parts)
      (sym p.is_reduced.args ∙ ap (λ (x : CoordNode). numbers_of x.args) tops ∙ q.is_reduced.args)))

  pub alike_from_number : (i j : CoordId) → i.0 < length coords → j.0 < length coords
      → number_at numbers i ≡ number_at numbers j → IsAlike seen (coord_at coords i) (coord_at coords j)
  alike_from_number i j l m e = alike_below (suc i.0) i j (omega arith) l m e

  pub same_number : (i j : CoordId) → i.0 < length coords → j.0 < length coords
      → IsAlike seen (coord_at coords i) (coord_at coords j) → number_at numbers i ≡ number_at numbers j
  same_number i j l m a = number_from_alike a i j l m refl refl

  -- lists of them have the same numbers exactly where they are alike
  pub alike_from_numbers : (is js : List CoordId) → AllBelow (length coords) (numbers_of is)
      → AllBelow (length coords) (numbers_of js)
      → sorted (map (number_at numbers) is) ≡ sorted (map (number_at numbers) js)
      → AreAlike seen (coords_at coords is) (coords_at coords js)
  alike_from_numbers is js p q e = all_alike (length coords) (λ i j l m e. alike_from_number i j l m e) is js p q e

  pub same_numbers : (is js : List CoordId) → AllBelow (length coords) (numbers_of is)
      → AllBelow (length coords) (numbers_of js) → AreAlike seen (coords_at coords is) (coords_at coords js)
      → sorted (map (number_at numbers) is) ≡ sorted (map (number_at numbers) js)
  same_numbers is js p q a = numbers_from_alike a is js refl refl p q
