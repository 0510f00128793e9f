-- `==` on the tops of coordinates and on lists of their numbers is equality.
use Rattle.std.proofs.Common.{ℕ, Bool, List, ap, ap₂}
use Rattle.std.proofs.lemmas.Bool.{and_parts}
use Rattle.std.specs.Cmp.Lexicographic.{lists_equiv, pointwise}
use Rattle.type_intern.specs.declared.node.TyId.{TyId}
use Rattle.type_intern.specs.declared.node.CoordId.{CoordId}
use Rattle.type_intern.specs.declared.node.CoordNode.{CoordNode}
use Rattle.type_intern.specs.contracts.node.CoordIdPartialEq.TheImpl as coord_id
use Rattle.type_intern.specs.contracts.node.TyIdPartialEq.TheImpl as ty_id
use Rattle.type_intern.specs.contracts.node.CoordNodePartialEq.TheImpl as coord_node
use Rattle.type_intern.specs.contracts.node.CoordNodeEq.TheImpl.Laws as coord_node_laws
use Rattle.type_intern.specs.contracts.node.CoordIdEq.TheImpl.Laws as coord_id_laws
use Rattle.type_intern.proofs.NodeEquality.{OnlyEqual, PassedBeside, id_eq_same, number_same, pointwise_same}

abbrev pub coord_eq : CoordNode → CoordNode → Bool
coord_eq a b = coord_node.eq-value.it a b

abbrev number_eq : CoordId → CoordId → Bool
number_eq a b = coord_id.eq-value.it a b

abbrev pub list_eq : List CoordId → List CoordId → Bool
list_eq a b = pointwise number_eq a b

abbrev head_eq : TyId → TyId → Bool
head_eq a b = ty_id.eq-value.it a b

number_eq_same : OnlyEqual number_eq
number_eq_same a b e = ap (λ (n : ℕ). record { 0 = n }) (number_same a.0 b.0 e)

pub list_eq_same : OnlyEqual list_eq
list_eq_same a b e = pointwise_same number_eq number_eq_same a b e

pub coord_eq_same : OnlyEqual coord_eq
coord_eq_same a b e =
    let parts = and_parts (list_eq a.args b.args) (head_eq a.head b.head) e in
    ap₂ (λ (c : List CoordId) (h : TyId). record { args = c; head = h }) (list_eq_same a.args b.args parts.0)
    (id_eq_same a.head b.head parts.1)

pub coord_eq_itself : PassedBeside coord_eq
coord_eq_itself = coord_node_laws.laws-law.refl

pub list_eq_itself : PassedBeside list_eq
list_eq_itself = (lists_equiv coord_id_laws.laws-law).refl
