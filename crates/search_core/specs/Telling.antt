-- What is told of types.
use Rattle.std.specs.Prelude.{◌≡◌, ℕ, List, Some, length, slice_get}
use Rattle.type_core.specs.declared.names.TypeName.{TypeName}
use Rattle.type_core.specs.declared.ty.Scheme.{Scheme}
use Rattle.type_core.specs.declared.ty.Ty.{Ty}
use Rattle.type_core.specs.Schemes.{IsScheme}
use Rattle.search_core.specs.declared.answer.Details.{Details}
use Rattle.search_core.specs.declared.answer.Mode.{Mode}
use Rattle.search_core.specs.declared.told.Told.{Told}
use Rattle.search_core.specs.Search.{AreDetails}

-- the details are those of each scheme of this type
abbrev pub AreDetailsOf : List TypeName → Mode → Scheme → Ty → Details → Type 0
AreDetailsOf names m query t details =
    (scheme : Scheme) → IsScheme scheme → scheme.body ≡ t → AreDetails names m scheme query details

-- each type's details are told under its number
pub record AreTold (names : List TypeName) (m : Mode) (query : Scheme) (told : Told) : Type 0 where
  pub as_many : length told.details ≡ length told.types
  pub each : (n : ℕ) (t : Ty) (details : Details) → slice_get told.types n ≡ Some t
      → slice_get told.details n ≡ Some details → AreDetailsOf names m query t details
