-- A type within the limit has few coordinates, since they are no more, at all depths, than its normal size.
use Rattle.std.proofs.Common.{◌≡◌, ℕ, ◌+◌, ◌<◌, ◌≤◌, ◌^◌, List, [], ◌∷◌, map, ap, subst, arith}
use Rattle.type_core.specs.declared.coordinate.Coordinate.{Coordinate}
use Rattle.type_core.specs.declared.coordinate.Coordinate.TheFolds.{fold-roll-Coordinate, ind-Coordinate}
use Rattle.type_core.specs.declared.coordinate.Coordinate.TheViews.{roll-Coordinate}
use Rattle.type_core.specs.declared.ty.Ty.{Ty}
use Rattle.type_core.specs.Coordinates.{arguments_of, coordinate, coordinate_size, coordinate_size_step, coordinates}
use Rattle.type_core.specs.Lists.{sum_of}
use Rattle.type_core.specs.NormalSize.{normal_size_of}
use Rattle.type_core.specs.Size.{size_of}
use Rattle.type_core.proofs.NormalSizes.{normal_size_is_total}
use Rattle.type_core.proofs.Trees.{induct_type, size_arrow, size_con, size_rec, size_tup, size_var}
use Rattle.iso_normal.specs.Shapes.{nodes_of}
use Rattle.iso_normal.proofs.ReadWords.{nodes_more, nodes_none}
use Rattle.iso_normal.proofs.Taking.{arguments_made}

has_node : (t : Ty) → 1 ≤ size_of t
has_node = induct_type (λ t. 1 ≤ size_of t)
    (λ v. omega (arith, size_var v))
    (λ name ts each. omega (arith, size_con name ts))
    (λ fields each. omega (arith, size_rec fields))
    (λ ts each. omega (arith, size_tup ts))
    (λ a b p q. omega (arith, size_arrow a b))

abbrev total : List Coordinate → ℕ
total cs = sum_of (map coordinate_size cs)

-- the coordinate has no more nodes than its size
abbrev IsSmall : Coordinate → Type 0
IsSmall c = 1 + nodes_of (arguments_of c) ≤ coordinate_size c

all_small : (es : List ((c : Coordinate) × IsSmall c)) → nodes_of (map (λ e. e.0) es) ≤ total (map (λ e. e.0) es)
all_small [] = omega (arith, nodes_none)
all_small (e ∷ es) = omega (arith, nodes_more e.0 (map (λ e. e.0) es), e.1, all_small es)

small : (c : Coordinate) → IsSmall c
small = ind-Coordinate IsSmall (λ x y is. subst (λ z. IsSmall (roll-Coordinate z)) is (level y.arguments y.head))
  where
    level : (es : List ((c : Coordinate) × IsSmall c)) (head : Ty) → IsSmall (coordinate (map (λ e. e.0) es) head)
    level es head =
        let arguments = map (λ e. e.0) es in
        let nodes : nodes_of (arguments_of (coordinate arguments head)) ≡ nodes_of arguments = ap nodes_of (arguments_made arguments head) in
        let size : coordinate_size (coordinate arguments head) ≡ size_of head + total arguments = fold-roll-Coordinate ℕ coordinate_size_step _ in
        omega (arith, nodes, size, has_node head, all_small es)

nodes_total : (cs : List Coordinate) → nodes_of cs ≤ total cs
nodes_total [] = omega (arith, nodes_none)
nodes_total (c ∷ cs) = omega (arith, nodes_more c cs, small c, nodes_total cs)

pub few_nodes : (t : Ty) (cs : List Coordinate) → cs ≡ coordinates t → normal_size_of t ≤ 8000 → nodes_of cs < 2 ^ 32
few_nodes t cs is l = omega (arith, ap nodes_of is, nodes_total (coordinates t), normal_size_is_total t, l)
