-- The rules of a valid library, grouped by what they speak of, as they are tested; ValidLibrary of type_core decides.
use Rattle.std.specs.Prelude.{◌≡◌, ℕ, ◌≤◌, ◌⊎◌, ◌++◌, false, true, List, Option, Some, None, length, map}
use Rattle.std.specs.List.{All, Contains}
use Rattle.sig_base.specs.Identifiers.{IsAlphanumeric}
use Rattle.sig_base.specs.LongIdentifiers.{IsShort}
use Rattle.type_core.specs.declared.library.Library.{Library}
use Rattle.type_core.specs.declared.library.Tycon.{Tycon}
use Rattle.type_core.specs.declared.library.Unit.{Unit}
use Rattle.type_core.specs.declared.member.Member.{Member}
use Rattle.type_core.specs.declared.names.Equality.TheVariants.{Never, IfArgs}
use Rattle.type_core.specs.declared.names.TypeName.{TypeName}
use Rattle.type_core.specs.InitialNames.{initial_names}
use Rattle.type_core.specs.Lists.{sum_of}
use Rattle.type_core.specs.NormalSize.{normal_size_of}
use Rattle.type_core.specs.Paths.{BeginsWith, IsMemberPath, IsTypePath}
use Rattle.type_core.specs.Schemes.{IsScheme}
use Rattle.type_core.specs.TypeFunctions.{IsTypeFn}
use Rattle.type_core.specs.ValidLibrary.{AreDistinct, IsTypeOf, IsWithinLimits, described_names, external_names, own_names, path_and_arity}

-- these texts themselves, where no two of them are equal
abbrev pub AreAll : {A : Type 0} → List A → Option (List A) → Type 0
AreAll texts None = ¬ (AreDistinct texts)
AreAll texts (Some found) = AreDistinct texts × (found ≡ texts)

-- the path begins with one of these identifiers
abbrev pub BeginsWithOne : List (List ℕ) → List ℕ → Type 0
BeginsWithOne identifiers path = (identifier : List ℕ) × Contains identifiers identifier × BeginsWith identifier path

-- the identifiers of the units
abbrev pub identifiers_of : List Unit → List (List ℕ)
identifiers_of = map (λ unit. unit.id)

-- the paths of the type constructors
abbrev pub paths_of : List Tycon → List (List ℕ)
paths_of = map (λ tycon. tycon.path)

-- the unit has an identifier that a unit may have
pub record IsValidUnit (unit : Unit) : Type 0 where
  pub alphanumeric : IsAlphanumeric unit.id
  pub short : IsShort unit.id

-- the type constructor keeps the rules on its path, its arity and its type function
pub record IsValidTycon (units : List (List ℕ)) (library : Library) (tycon : Tycon) : Type 0 where
  pub path : IsTypePath tycon.path
  pub in_units : BeginsWithOne units tycon.path
  pub arity : tycon.fun.arity ≤ 1999
  pub function : IsTypeFn tycon.fun
  pub types : IsTypeOf library tycon.fun.body
  pub limits : IsWithinLimits tycon.fun.body

-- the member keeps the rules on its path and its scheme
pub record IsValidMember (units : List (List ℕ)) (library : Library) (member : Member) : Type 0 where
  pub path : IsMemberPath member.path
  pub in_units : BeginsWithOne units member.path
  pub scheme : IsScheme member.scheme
  pub types : IsTypeOf library member.scheme.body
  pub limits : IsWithinLimits member.scheme.body
  pub normal : normal_size_of member.scheme.body ≤ 8000

-- the name keeps the rules on the equality and the path of a described one
pub record IsDescribed (units tycons : List (List ℕ)) (name : TypeName) : Type 0 where
  pub equality : (name.equality ≡ Never) ⊎ (name.equality ≡ IfArgs)
  pub in_units : BeginsWithOne units name.path
  pub tycon : Contains tycons name.path

-- the name keeps the rules on the equality and the path of an external one
pub record IsExternal (units : List (List ℕ)) (name : TypeName) : Type 0 where
  pub equality : name.equality ≡ IfArgs
  pub outside : ¬ (BeginsWithOne units name.path)

-- the name keeps the rules of its sort
pub record IsValidName (units tycons : List (List ℕ)) (name : TypeName) : Type 0 where
  pub path : IsTypePath name.path
  pub arity : name.arity ≤ 1999
  pub described : name.external ≡ false → IsDescribed units tycons name
  pub external : name.external ≡ true → IsExternal units name

-- all rules on units
pub record HasValidUnits (library : Library) : Type 0 where
  pub each : All IsValidUnit library.units
  pub distinct : AreDistinct (identifiers_of library.units)

-- all rules on type constructors
pub record HasValidTycons (units : List (List ℕ)) (library : Library) : Type 0 where
  pub each : All (IsValidTycon units library) library.tycons
  pub distinct : AreDistinct (paths_of library.tycons)

-- all rules on members
pub record HasValidMembers (units : List (List ℕ)) (library : Library) : Type 0 where
  pub each : All (IsValidMember units library) library.members
  pub distinct : AreDistinct (map (λ member. member.path) library.members)
  pub limit : length library.members ≤ 100000
  pub normal_sum : sum_of (map (λ member. normal_size_of member.scheme.body) library.members) ≤ 4000000

-- all rules on names
pub record HasValidNames (units tycons : List (List ℕ)) (library : Library) : Type 0 where
  pub initial : library.names ≡ initial_names ++ own_names library
  pub each : All (IsValidName units tycons) (own_names library)
  pub described_distinct : AreDistinct (map (λ name. name.path) (described_names library))
  pub external_distinct : AreDistinct (map path_and_arity (external_names library))
