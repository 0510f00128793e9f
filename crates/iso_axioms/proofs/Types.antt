-- When arrows and tuples are types.
use Rattle.std.proofs.lemmas.Grind.{common_steps}
use Rattle.std.proofs.Common.{arith, ◌≡◌, suc, ◌&&◌, Bool, true, false, not, IsTrue, List, [], ◌∷◌, ◌++◌, map, length, nat_eq, refl, sym, ap, ap₂, ◌∙◌, subst}
use Rattle.type_core.specs.declared.ty.Ty.{Ty}
use Rattle.type_core.specs.declared.ty.Ty.TheVariants as ty
use Rattle.type_core.specs.Lists.{all_true}
use Rattle.type_core.specs.Types.{IsType, is_type}
use Rattle.type_core.proofs.TypeTests.{is_type_arrow, is_type_tup}
use Rattle.iso_axioms.specs.Axioms.{◌⇒◌, ◌⊗◌, unit}

pub both : (a b : Bool) → IsTrue (a && b) → IsTrue a × IsTrue b
both true b p = (refl, p)
both false b p = (p, cc)

pub and_both : (a b : Bool) → IsTrue a → IsTrue b → IsTrue (a && b)
and_both a b p q = ap₂ ◌&&◌ p q

-- each of these is a type
abbrev pub AreTypes : List Ty → Type 0
AreTypes ts = IsTrue (all_true (map is_type ts))

-- not one component
abbrev pub IsNotOne : List Ty → Type 0
IsNotOne ts = IsTrue (not (nat_eq (length ts) 1))

pub more_types : (t : Ty) (ts : List Ty) → IsType t → AreTypes ts → AreTypes (t ∷ ts)
more_types t ts = and_both (is_type t) (all_true (map is_type ts))

pub each_type : (t : Ty) (ts : List Ty) → AreTypes (t ∷ ts) → IsType t × AreTypes ts
each_type t ts = both (is_type t) (all_true (map is_type ts))

pub arrow_type : (a b : Ty) → IsType a → IsType b → IsType (a ⇒ b)
arrow_type a b p q = is_type_arrow a b ∙ and_both (is_type a) (is_type b) p q

pub arrow_types : (a b : Ty) → IsType (a ⇒ b) → IsType a × IsType b
arrow_types a b p = both (is_type a) (is_type b) (sym (is_type_arrow a b) ∙ p)

pub tuple_type : (ts : List Ty) → IsNotOne ts → AreTypes ts → IsType (ty.Tup ts)
tuple_type ts l p = is_type_tup ts ∙ and_both _ _ l p

pub tuple_types : (ts : List Ty) → IsType (ty.Tup ts) → IsNotOne ts × AreTypes ts
tuple_types ts p = both (not (nat_eq (length ts) 1)) (all_true (map is_type ts)) (sym (is_type_tup ts) ∙ p)

two_or_more : (a b : Ty) (ts : List Ty) → IsNotOne (a ∷ b ∷ ts)
two_or_more a b ts = grind (arith, common_steps)

pub tuple_of : (a b : Ty) (ts : List Ty) → AreTypes (a ∷ b ∷ ts) → IsType (ty.Tup (a ∷ b ∷ ts))
tuple_of a b ts = tuple_type (a ∷ b ∷ ts) (two_or_more a b ts)

pub unit_type : IsType unit
unit_type = tuple_type [] refl refl

pub pair_type : (a b : Ty) → IsType a → IsType b → IsType (a ⊗ b)
pair_type a b p q = tuple_type (a ∷ b ∷ []) refl (more_types a (b ∷ []) p (more_types b [] q refl))

pub pair_types : (a b : Ty) → IsType (a ⊗ b) → IsType a × IsType b
pair_types a b p = let each = each_type a (b ∷ []) (tuple_types (a ∷ b ∷ []) p).1 in (each.0, (each_type b [] each.1).0)

-- a type in the place of one that is
exchanged_types : (before after : List Ty) (a b : Ty) → IsType b → AreTypes (before ++ a ∷ after) → AreTypes (before ++ b ∷ after)
exchanged_types [] after a b q p = more_types b after q (each_type a after p).1
exchanged_types (t ∷ before) after a b q p =
    let each = each_type t (before ++ a ∷ after) p in
    more_types t (before ++ b ∷ after) each.0 (exchanged_types before after a b q each.1)

same_length : (before after : List Ty) (a b : Ty) → length (before ++ a ∷ after) ≡ length (before ++ b ∷ after)
same_length [] after a b = refl
same_length (t ∷ before) after a b = ap suc (same_length before after a b)

pub exchanged_type : (before after : List Ty) (a b : Ty) → IsType b → IsType (ty.Tup (before ++ a ∷ after)) → IsType (ty.Tup (before ++ b ∷ after))
exchanged_type before after a b q p =
    let parts = tuple_types (before ++ a ∷ after) p in
    tuple_type (before ++ b ∷ after) (subst (λ n. IsTrue (not (nat_eq n 1))) (same_length before after a b) parts.0) (exchanged_types before after a b q parts.1)
