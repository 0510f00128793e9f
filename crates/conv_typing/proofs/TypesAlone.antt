-- Every type that a term has is a type.
use Rattle.std.proofs.Common.{◌≡◌, true, List, map, refl, ap₂, ◌&&◌}
use Rattle.type_core.specs.declared.ty.Ty.{Ty}
use Rattle.type_core.specs.declared.ty.Ty.TheVariants as ty
use Rattle.type_core.specs.Lists.{all_true}
use Rattle.type_core.specs.Types.{IsType, is_type}
use Rattle.type_core.proofs.TypeTests.{arrow_is_type, sides_are_types, tuple_is_type, components_are_types, each_is_type}
use Rattle.conv_terms.specs.declared.term.Term.{Term}
use Rattle.conv_typing.specs.Typing.{HasType, HaveTypes}

mutual
  pub has_type_is_type : {ctx : List Ty} {t : Term} {a : Ty} → HasType ctx t a → IsType a
  has_type_is_type (HasType.var n p is) = is
  has_type_is_type (HasType.lam a {b} body is k) = arrow_is_type a b is (has_type_is_type k)
  has_type_is_type {a = b} (HasType.app {a = a} f e k l) = (sides_are_types a b (has_type_is_type k)).1
  has_type_is_type (HasType.tup terms types l ks) = tuple_is_type types l (have_types_are_types ks)
  has_type_is_type {a = a} (HasType.proj i e types l p k) = each_is_type types i a (components_are_types types (has_type_is_type k)).1 p

  pub have_types_are_types : {ctx : List Ty} {ts : List Term} {types : List Ty} → HaveTypes ctx ts types → all_true (map is_type types) ≡ true
  have_types_are_types HaveTypes.none = refl
  have_types_are_types (HaveTypes.more k ks) = ap₂ ◌&&◌ (has_type_is_type k) (have_types_are_types ks)

-- the argument of a function is of a type
pub argument_is_type : {ctx : List Ty} {f : Term} (a b : Ty) → HasType ctx f (ty.Arrow a b) → IsType a
argument_is_type a b k = (sides_are_types a b (has_type_is_type k)).0
