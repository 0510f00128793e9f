-- Tables of types, with the number of each type's erasure beside it.
use Rattle.std.specs.Prelude.{◌≡◌, ℕ, List, Option, Some, map, length, slice_get}
use Rattle.type_core.specs.declared.ty.Ty.{Ty}
use Rattle.type_core.specs.declared.ty.Field.{Field}
use Rattle.type_intern.specs.Erasure.{erase}
use Rattle.type_intern.specs.Tables.{IsTableOf, values_of}
use Rattle.type_intern.specs.Tops.{FitsBelow, tree_of, type_at}
use Rattle.type_intern.specs.declared.node.TyId.{TyId}
use Rattle.type_intern.specs.declared.node.FieldId.{FieldId}
use Rattle.type_intern.specs.declared.node.Node.{Node}

-- the erasure of the type under a number
abbrev pub erased_at : List Ty → TyId → Ty
erased_at types id = erase (type_at types id)

-- the field with the erasure of its type
abbrev pub erased_field_at : List Ty → FieldId → Field
erased_field_at types field = record { label = field.label; ty = erase (type_at types field.ty) }

-- the types with these tops
abbrev pub types_of : List Node → List Ty
types_of nodes = values_of tree_of nodes

-- each type stands beside the number of its erasure
pub record AreErased (types : List Ty) (erased : List ℕ) : Type 0 where
  pub long : length erased ≡ length types
  pub is : (i : ℕ) (t : Ty) (e : ℕ) → slice_get types i ≡ Some t → slice_get erased i ≡ Some e
      → slice_get types e ≡ Some (erase t)

-- the tops make a table of types, and each type stands beside the number of its erasure
pub record IsTypeTable (nodes : List Node) (erased : List ℕ) : Type 0 where
  pub table : IsTableOf tree_of FitsBelow nodes (types_of nodes)
  pub erasures : AreErased (types_of nodes) erased

-- these are the numbers of these types in turn
abbrev pub AreStored : List Ty → List TyId → List Ty → Type 0
AreStored types ids ts = map (λ id. slice_get types id.0) ids ≡ map (λ t. Some t) ts

-- the label with what the number means
abbrev pub label_and_type : List Ty → FieldId → List ℕ × Option Ty
label_and_type types field = (field.label, slice_get types field.ty.0)

-- these fields have the labels of these, and the numbers of their types, in turn
abbrev pub AreFieldsStored : List Ty → List FieldId → List Field → Type 0
AreFieldsStored types ids fields = map (label_and_type types) ids ≡ map (λ field. (field.label, Some field.ty)) fields
