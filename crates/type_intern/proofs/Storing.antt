-- Numbers of stored types.
use Rattle.std.proofs.Common.{◌≡◌, ◌<◌, ◌+◌, ℕ, List, [], ◌∷◌, ◌++◌, Option, Some, map, length, slice_get, get_or, take, refl, sym, ap, ap₂, ◌∙◌}
use Rattle.std.proofs.lemmas.Option.{slice_get_within, get_or_from_slice_get}
use Rattle.std.proofs.lemmas.List.{take_more}
use Rattle.type_core.specs.declared.ty.Ty.{Ty}
use Rattle.type_core.specs.declared.ty.Field.{Field}
use Rattle.type_core.specs.declared.ty.Ty.TheVariants as ty
use Rattle.type_intern.specs.declared.node.TyId.{TyId}
use Rattle.type_intern.specs.declared.node.FieldId.{FieldId}
use Rattle.type_intern.specs.Numbering.{AllBelow, Grows}
use Rattle.type_intern.specs.Tops.{field_at, field_numbers, type_at, type_numbers}
use Rattle.type_intern.specs.TypeTables.{AreFieldsStored, AreStored, label_and_type}
use Rattle.type_intern.proofs.Places.{stays}

pub stored_below : (types : List Ty) (ids : List TyId) (ts : List Ty) → AreStored types ids ts
    → AllBelow (length types) (type_numbers ids)
stored_below types [] ts e = tt
stored_below types (id ∷ ids) [] e = cc e
stored_below types (id ∷ ids) (t ∷ ts) e =
    let first : slice_get types id.0 ≡ Some t = cc e in
    let others : AreStored types ids ts = cc e in
    (slice_get_within types id.0 t first, stored_below types ids ts others)

pub stored_types : (types : List Ty) (ids : List TyId) (ts : List Ty) → AreStored types ids ts
    → map (type_at types) ids ≡ ts
stored_types types [] [] e = refl
stored_types types [] (t ∷ ts) e = cc e
stored_types types (id ∷ ids) [] e = cc e
stored_types types (id ∷ ids) (t ∷ ts) e =
    let first : slice_get types id.0 ≡ Some t = cc e in
    let others : AreStored types ids ts = cc e in
    ap₂ ◌∷◌ (get_or_from_slice_get types id.0 t (ty.Tup []) first) (stored_types types ids ts others)

pub stored_push : (old new : List Ty) (ids : List TyId) (ts : List Ty) (id : TyId) (t : Ty) → Grows old new
    → AreStored old ids ts → slice_get new id.0 ≡ Some t → AreStored new (ids ++ id ∷ []) (ts ++ t ∷ [])
stored_push old new [] [] id t k e at = ap (λ o. o ∷ []) at
stored_push old new [] (u ∷ ts) id t k e at = cc e
stored_push old new (i ∷ ids) [] id t k e at = cc e
stored_push old new (i ∷ ids) (u ∷ ts) id t k e at =
    let first : slice_get old i.0 ≡ Some u = cc e in
    let others : AreStored old ids ts = cc e in
    ap₂ ◌∷◌ (stays old new k i.0 u first) (stored_push old new ids ts id t k others at)

pub stored_more : (old new : List Ty) (ids js : List TyId) (ts : List Ty) (i : ℕ) (id : TyId) (t : Ty) → Grows old new
    → AreStored old ids (take i ts) → i < length ts → t ≡ get_or ts i t → slice_get new id.0 ≡ Some t
    → js ≡ ids ++ id ∷ [] → AreStored new js (take (i + 1) ts)
stored_more old new ids js ts i id t k e l is at pushed =
    ap (map (λ j. slice_get new j.0)) pushed ∙ stored_push old new ids (take i ts) id t k e at
    ∙ ap (map (λ u. Some u)) (ap (λ u. take i ts ++ u ∷ []) is ∙ sym (take_more ts i t l))

pub read_at : (types : List Ty) (id : TyId) (t : Ty) → slice_get types id.0 ≡ Some t → type_at types id ≡ t
read_at types id t e = get_or_from_slice_get types id.0 t (ty.Tup []) e

pub fields_below : (types : List Ty) (ids : List FieldId) (ts : List Field) → AreFieldsStored types ids ts
    → AllBelow (length types) (field_numbers ids)
fields_below types [] ts e = tt
fields_below types (id ∷ ids) [] e = cc e
fields_below types (id ∷ ids) (t ∷ ts) e =
    let first : label_and_type types id ≡ (t.label, Some t.ty) = cc e in
    let others : AreFieldsStored types ids ts = cc e in
    (slice_get_within types id.ty.0 t.ty (ap (λ (p : List ℕ × Option Ty). p.1) first), fields_below types ids ts others)

pub fields_stored : (types : List Ty) (ids : List FieldId) (ts : List Field) → AreFieldsStored types ids ts
    → map (field_at types) ids ≡ ts
fields_stored types [] [] e = refl
fields_stored types [] (t ∷ ts) e = cc e
fields_stored types (id ∷ ids) [] e = cc e
fields_stored types (id ∷ ids) (t ∷ ts) e =
    let first : label_and_type types id ≡ (t.label, Some t.ty) = cc e in
    let others : AreFieldsStored types ids ts = cc e in
    let at : type_at types id.ty ≡ t.ty = get_or_from_slice_get types id.ty.0 t.ty (ty.Tup [])
    (ap (λ (p : List ℕ × Option Ty). p.1) first) in
    ap₂ ◌∷◌ (ap₂ (λ (l : List ℕ) (u : Ty). record { label = l; ty = u }) (ap (λ (p : List ℕ × Option Ty). p.0) first)
    at) (fields_stored types ids ts others)

pub fields_push : (old new : List Ty) (ids : List FieldId) (ts : List Field) (id : FieldId) (t : Field) → Grows old new
    → AreFieldsStored old ids ts → id.label ≡ t.label → slice_get new id.ty.0 ≡ Some t.ty
    → AreFieldsStored new (ids ++ id ∷ []) (ts ++ t ∷ [])
fields_push old new [] [] id t k e label at = ap (λ (o : List ℕ × Option Ty). o ∷ [])
    (ap₂ (λ (l : List ℕ) (o : Option Ty). (l, o)) label at)
fields_push old new [] (u ∷ ts) id t k e label at = cc e
fields_push old new (i ∷ ids) [] id t k e label at = cc e
fields_push old new (i ∷ ids) (u ∷ ts) id t k e label at =
    let first : label_and_type old i ≡ (u.label, Some u.ty) = cc e in
    let others : AreFieldsStored old ids ts = cc e in
    let kept = stays old new k i.ty.0 u.ty (ap (λ (p : List ℕ × Option Ty). p.1) first) in
    ap₂ ◌∷◌ (ap₂ (λ (l : List ℕ) (o : Option Ty). (l, o)) (ap (λ (p : List ℕ × Option Ty). p.0) first) kept)
    (fields_push old new ids ts id t k others label at)

pub fields_more : (old new : List Ty) (ids js : List FieldId) (ts : List Field) (i : ℕ) (id : FieldId) (t : Field)
    → Grows old new → AreFieldsStored old ids (take i ts) → i < length ts → t ≡ get_or ts i t → id.label ≡ t.label
    → slice_get new id.ty.0 ≡ Some t.ty → js ≡ ids ++ id ∷ [] → AreFieldsStored new js (take (i + 1) ts)
fields_more old new ids js ts i id t k e l is label at pushed =
    ap (map (label_and_type new)) pushed ∙ fields_push old new ids (take i ts) id t k e label at
    ∙ ap (map (λ (u : Field). (u.label, Some u.ty))) (ap (λ u. take i ts ++ u ∷ []) is ∙ sym (take_more ts i t l))
