-- Distinct types under numbers.
use Rattle.std.specs.Prelude.{◌≡◌, ◌⊎◌, ℕ, List, [], ◌∷◌, ◌++◌, Some, length, map, slice_get}
use Rattle.type_core.specs.declared.ty.Ty.{Ty}
use Rattle.type_intern.specs.declared.node.TyId.{TyId}
use Rattle.type_intern.specs.Numbering.{AllBelow, StandsOnce}
use Rattle.type_intern.specs.Tops.{type_at, type_numbers}

-- n is the place of the value among those before, which stay, or it is the next place, and the value goes there
abbrev pub IsNumbered : {T : Type 0} → List T → T → List T → ℕ → Type 0
IsNumbered before value now n =
    ((slice_get before n ≡ Some value) × (now ≡ before)) ⊎ ((n ≡ length before) × (now ≡ before ++ value ∷ []))

-- the types that an arena has under these numbers
abbrev pub types_under : List Ty → List TyId → List Ty
types_under types ids = map (type_at types) ids

-- the numbers are an arena's, and none stands twice, nor does a type in the arena
pub record AreNumbers (types : List Ty) (ids : List TyId) : Type 0 where
  pub below : AllBelow (length types) (type_numbers ids)
  pub ids_once : StandsOnce ids
  pub types_once : StandsOnce types
