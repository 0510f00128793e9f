-- Numbers of types, as an arena grows.
use Rattle.std.proofs.Common.{◌≡◌, ◌<◌, ◌⊎◌, ℕ, Bool, true, false, if◌then◌else◌, List, [], ◌∷◌, ◌++◌, Some, length, get_or, slice_get, refl, sym, ap, ap₂, ◌∙◌, subst, inl, inr, true≢false}
use Rattle.std.proofs.lemmas.Option.{get_or_from_slice_get, slice_get_within}
use Rattle.std.proofs.lemmas.List.{get_or_append_left, length-map}
use Rattle.std.proofs.lemmas.Map.Keys.{any_passes_from_place}
use Rattle.std.specs.List.{list_any}
use Rattle.indexmap.specs.IndexSet.{insert_key}
use Rattle.type_core.specs.declared.ty.Ty.{Ty}
use Rattle.type_core.specs.declared.ty.Ty.TheVariants as ty
use Rattle.type_intern.specs.declared.node.TyId.{TyId}
use Rattle.type_intern.specs.contracts.node.TyIdEq.TheImpl.Laws as id_laws
use Rattle.type_intern.specs.contracts.node.TyIdPartialEq.TheImpl as id_compare
use Rattle.type_intern.specs.Numbering.{AllBelow, Grows, StandsOnce}
use Rattle.type_intern.specs.Tops.{type_at, type_numbers}
use Rattle.type_intern.proofs.Entries.{key_once}
use Rattle.type_intern.proofs.NodeEquality.{PassedBeside, id_eq_same}
use Rattle.type_intern.proofs.Places.{below_at, below_weaker, get_from_map, get_map, get_push, grows_longer, map_push}
use Rattle.type_intern.proofs.Storing.{read_at}
use Rattle.type_intern.proofs.TypeTops.{at_once}
use Rattle.type_numbers.specs.Numbers.{AreNumbers, IsNumbered, types_under}

abbrev pub id_eq : TyId → TyId → Bool
id_eq a b = id_compare.eq-value.it a b

same_itself : PassedBeside id_eq
same_itself = id_laws.laws-law.refl

-- where a number was inserted
pub inserted : (ids : List TyId) (id : TyId) (n : ℕ)
    → (k : TyId) × (slice_get (insert_key id_eq ids id) n ≡ Some k) × (id_eq id k ≡ true)
    → IsNumbered ids id (insert_key id_eq ids id) n
inserted ids id n stored = by (list_any (id_eq id) ids) refl
    (stored.1 ∙ ap Some (sym (id_eq_same id stored.0 stored.2)))
  where
    by : (b : Bool) → list_any (id_eq id) ids ≡ b → slice_get (if b then ids else ids ++ id ∷ []) n ≡ Some id
        → IsNumbered ids id (if b then ids else ids ++ id ∷ []) n
    by true e at = inl (at, refl)
    by false e at = elim (get_push ids id n id at) [
      | inl here ↦ absurd (true≢false (sym (any_passes_from_place (id_eq id) ids n id here (same_itself id)) ∙ e))
      | inr last ↦ inr (last.0, refl)
    ]

pub inserted_once : (ids : List TyId) (id : TyId) → StandsOnce ids → StandsOnce (insert_key id_eq ids id)
inserted_once ids id once = key_once id_eq same_itself ids id once

under_append : (types more : List Ty) (ids : List TyId) → AllBelow (length types) (type_numbers ids)
    → types_under (types ++ more) ids ≡ types_under types ids
under_append types more [] below = refl
under_append types more (id ∷ ids) below = ap₂ ◌∷◌ (get_or_append_left types more (ty.Tup []) id.0 below.0)
    (under_append types more ids below.1)

below_place : (n : ℕ) (ids : List TyId) (i : ℕ) (id : TyId) → AllBelow n (type_numbers ids) → slice_get ids i ≡ Some id
    → id.0 < n
below_place n ids i id below at =
    below_at (λ (id : TyId). id.0) n ids i id id below (slice_get_within ids i id at) (sym (read ids i id at))
  where
    read : (ids : List TyId) (i : ℕ) (id : TyId) → slice_get ids i ≡ Some id → get_or ids i id ≡ id
    read ids i id at = get_or_from_slice_get ids i id id at

below_push : (n : ℕ) (ids : List TyId) (id : TyId) → AllBelow n (type_numbers ids) → id.0 < n
    → AllBelow n (type_numbers (ids ++ id ∷ []))
below_push n [] id below l = (l, tt)
below_push n (j ∷ ids) id below l = (below.0, below_push n ids id below.1 l)

-- no type stands twice under the numbers
pub under_once : (types : List Ty) (ids : List TyId) → AreNumbers types ids → StandsOnce (types_under types ids)
under_once types ids are i j t p q =
    let a = get_from_map (type_at types) ids i t p in
    let b = get_from_map (type_at types) ids j t q in
    let same : a.0 ≡ b.0 = at_once types are.types_once a.0 b.0
    (below_place (length types) ids i a.0 are.below a.1) (below_place (length types) ids j b.0 are.below b.1)
    (a.2 ∙ sym b.2) in
    are.ids_once i j b.0 (a.1 ∙ ap Some same) b.1

module _ (types now : List Ty) (grows : Grows types now) (ids : List TyId) (are : AreNumbers types ids)
    (once : StandsOnce now) where
  -- the numbers mean the same where there are more types
  pub under_stays : types_under now ids ≡ types_under types ids
  under_stays = ap (λ types. types_under types ids) grows.is ∙ under_append types grows.more ids are.below

  pub still_numbers : AreNumbers now ids
  still_numbers = record {
    below = below_weaker (length types) (length now) (type_numbers ids) (grows_longer types now grows) are.below;
    ids_once = are.ids_once;
    types_once = once;
  }

  module _ (id : TyId) (t : Ty) (at : slice_get now id.0 ≡ Some t) (all : List TyId) where
    pub more_numbers : (all ≡ ids) ⊎ (all ≡ ids ++ id ∷ []) → StandsOnce all → AreNumbers now all
    more_numbers is all_once = elim is [
      | inl same ↦ subst (AreNumbers now) (sym same) still_numbers
      | inr last ↦ record {
        below = subst (λ all. AllBelow (length now) (type_numbers all)) (sym last)
            (below_push (length now) ids id still_numbers.below (slice_get_within now id.0 t at));
        ids_once = all_once;
        types_once = once;
      }
    ]

    means : type_at now id ≡ t
    means = read_at now id t at

    pub is_numbered : (n : ℕ) → IsNumbered ids id all n → IsNumbered (types_under types ids) t (types_under now all) n
    is_numbered n is = elim is [
      | inl here ↦ inl (
        subst (λ ts. slice_get ts n ≡ Some t) under_stays (get_map (type_at now) ids n id here.0 ∙ ap Some means),
        ap (types_under now) here.1 ∙ under_stays,
      )
      | inr last ↦ inr (
        last.0 ∙ sym (length-map ids (type_at types)),
        ap (types_under now) last.1 ∙ map_push (type_at now) ids id ∙ ap₂ (λ ts t. ts ++ t ∷ []) under_stays means,
      )
    ]

-- the keys stay, or the number goes last
pub grown : (ids : List TyId) (id : TyId)
    → (insert_key id_eq ids id ≡ ids) ⊎ (insert_key id_eq ids id ≡ ids ++ id ∷ [])
grown ids id = by (list_any (id_eq id) ids)
  where
    by : (b : Bool)
        → ((if b then ids else ids ++ id ∷ []) ≡ ids) ⊎ ((if b then ids else ids ++ id ∷ []) ≡ ids ++ id ∷ [])
    by true = inl refl
    by false = inr refl
