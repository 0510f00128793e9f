-- The tops of coordinates, and the numbers beside them.
use Rattle.std.proofs.Common.{◌≡◌, ◌<◌, ℕ, List, [], ◌∷◌, ◌++◌, Some, map, length, refl, sym, ap, ap₂, ◌∙◌}
use Rattle.std.proofs.lemmas.Option.{slice_get-get_or}
use Rattle.std.proofs.lemmas.List.{get_or_append_left}
use Rattle.type_core.specs.declared.ty.Ty.{Ty}
use Rattle.type_core.specs.declared.ty.Ty.TheVariants as ty
use Rattle.type_core.specs.declared.coordinate.Coordinate.{Coordinate}
use Rattle.type_core.specs.declared.coordinate.Coordinate.TheOpen.{Coordinate-F}
use Rattle.type_core.specs.declared.coordinate.Coordinate.TheViews.{out-roll-Coordinate}
use Rattle.type_core.specs.Coordinates.{arguments_of, coordinate, head_of}
use Rattle.type_intern.specs.declared.node.TyId.{TyId}
use Rattle.type_intern.specs.declared.node.CoordId.{CoordId}
use Rattle.type_intern.specs.Numbering.{AllBelow, Grows, StandsOnce}
use Rattle.type_intern.specs.Tops.{coord_at, coords_at, numbers_of, type_at}
use Rattle.type_intern.specs.CoordTables.{CoordFits, coord_of, number_at}
use Rattle.type_intern.proofs.Places.{below_weaker}
use Rattle.type_intern.proofs.Placing.{AreTops}
use Rattle.type_intern.proofs.TypeTops.{at_once}

pub arguments_made : (arguments : List Coordinate) (head : Ty) → arguments_of (coordinate arguments head) ≡ arguments
arguments_made arguments head = ap (λ (c : Coordinate-F Coordinate). c.arguments) (out-roll-Coordinate _)

pub head_made : (arguments : List Coordinate) (head : Ty) → head_of (coordinate arguments head) ≡ head
head_made arguments head = ap (λ (c : Coordinate-F Coordinate). c.head) (out-roll-Coordinate _)

abbrev nowhere : Coordinate
nowhere = coordinate [] (ty.Tup [])

pub args_grow : (coords more : List Coordinate) (ids : List CoordId) → AllBelow (length coords) (numbers_of ids)
    → coords_at (coords ++ more) ids ≡ coords_at coords ids
args_grow coords more [] h = refl
args_grow coords more (id ∷ ids) h = ap₂ ◌∷◌ (get_or_append_left coords more nowhere id.0 h.0)
    (args_grow coords more ids h.1)

pub args_stay : (coords more : List Coordinate) → Grows coords more → (ids : List CoordId)
    → AllBelow (length coords) (numbers_of ids) → coords_at more ids ≡ coords_at coords ids
args_stay coords more g ids h = ap (λ cs. coords_at cs ids) g.is ∙ args_grow coords g.more ids h

numbers_append : (numbers more : List ℕ) (ids : List CoordId) → AllBelow (length numbers) (numbers_of ids)
    → map (number_at (numbers ++ more)) ids ≡ map (number_at numbers) ids
numbers_append numbers more [] h = refl
numbers_append numbers more (id ∷ ids) h = ap₂ ◌∷◌ (get_or_append_left numbers more 0 id.0 h.0)
    (numbers_append numbers more ids h.1)

pub numbers_stay : (numbers more : List ℕ) → Grows numbers more → (ids : List CoordId)
    → AllBelow (length numbers) (numbers_of ids) → map (number_at more) ids ≡ map (number_at numbers) ids
numbers_stay numbers more g ids h = ap (λ ns. map (number_at ns) ids) g.is ∙ numbers_append numbers g.more ids h

coord_once : (coords : List Coordinate) → StandsOnce coords → (a b : CoordId) → a.0 < length coords
    → b.0 < length coords → coord_at coords a ≡ coord_at coords b → a ≡ b
coord_once coords once a b p q e =
    let same : a.0 ≡ b.0 = once a.0 b.0 (coord_at coords b) (slice_get-get_or coords a.0 nowhere p ∙ ap Some e)
    (slice_get-get_or coords b.0 nowhere q) in
    ap (λ (n : ℕ). record { 0 = n }) same

args_once : (coords : List Coordinate) → StandsOnce coords → (ids js : List CoordId)
    → AllBelow (length coords) (numbers_of ids) → AllBelow (length coords) (numbers_of js)
    → coords_at coords ids ≡ coords_at coords js → ids ≡ js
args_once coords once [] [] p q e = refl
args_once coords once [] (j ∷ js) p q e = cc e
args_once coords once (i ∷ ids) [] p q e = cc e
args_once coords once (i ∷ ids) (j ∷ js) p q e =
    let first : coord_at coords i ≡ coord_at coords j = cc e in
    let others : coords_at coords ids ≡ coords_at coords js = cc e in
    ap₂ ◌∷◌ (coord_once coords once i j p.0 q.0 first) (args_once coords once ids js p.1 q.1 others)

pub coord_tops : (types : List Ty) → StandsOnce types → AreTops (coord_of types) (CoordFits (length types))
coord_tops types types_once = record {
  weaker = λ k n node l h. (below_weaker k n (numbers_of node.args) l h.0, h.1);
  grows = λ coords more node h. ap (λ cs. coordinate cs (type_at types node.head))
      (args_grow coords more node.args h.0);
  apart = λ coords once n m p q e.
      let args : coords_at coords n.args ≡ coords_at coords m.args = sym (arguments_made _ _) ∙ ap arguments_of e ∙
      arguments_made _ _ in
      let heads : type_at types n.head ≡ type_at types m.head = sym (head_made _ _) ∙ ap head_of e ∙ head_made _ _ in
      ap₂ (λ (a : List CoordId) (h : TyId). record { args = a; head = h })
      (args_once coords once n.args m.args p.0 q.0 args) (at_once types types_once n.head m.head p.1 q.1 heads);
}

pub numbers_same : (ids js : List CoordId) → numbers_of ids ≡ numbers_of js → ids ≡ js
numbers_same [] [] e = refl
numbers_same [] (j ∷ js) e = cc e
numbers_same (i ∷ ids) [] e = cc e
numbers_same (i ∷ ids) (j ∷ js) e =
    let first : i.0 ≡ j.0 = cc e in
    let others : numbers_of ids ≡ numbers_of js = cc e in
    ap₂ ◌∷◌ (ap (λ (n : ℕ). record { 0 = n }) first) (numbers_same ids js others)
