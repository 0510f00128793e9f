-- What is a valid library.
use Rattle.std.specs.Prelude.{◌≡◌, ℕ, ◌≤◌, ◌⊎◌, ◌++◌, List, drop, length, map, not}
use Rattle.std.specs.List.{All, Contains, filter}
pub use Rattle.sig_base.specs.Lists.{AreDistinct}
use Rattle.sig_base.specs.Identifiers.{IsAlphanumeric, IsIdentifier, IsNumeral}
use Rattle.type_core.specs.declared.library.Library.{Library}
use Rattle.type_core.specs.declared.names.Equality.TheVariants.{Never, IfArgs}
use Rattle.type_core.specs.declared.names.TypeName.{TypeName}
use Rattle.type_core.specs.declared.ty.Ty.{Ty}
use Rattle.type_core.specs.Height.{height_of}
use Rattle.type_core.specs.InitialNames.{initial_names}
use Rattle.type_core.specs.Lists.{sum_of}
use Rattle.type_core.specs.NormalSize.{normal_size_of}
use Rattle.sig_base.specs.LongIdentifiers.{IsShort}
use Rattle.type_core.specs.Paths.{BeginsWith, IsMemberPath, IsTypePath}
use Rattle.type_core.specs.Schemes.{IsScheme}
use Rattle.type_core.specs.Size.{size_of}
use Rattle.type_core.specs.TypeFunctions.{IsTypeFn}
use Rattle.type_core.specs.Types.{IsTypeOver}
use Rattle.type_core.specs.Weight.{labels_of, library_weight}

-- the names after the initial ones
abbrev pub own_names : Library → List TypeName
own_names library = drop (length initial_names) library.names

-- those of them that were only mentioned
abbrev pub external_names : Library → List TypeName
external_names library = filter (λ name. name.external) (own_names library)

-- those of them that were described
abbrev pub described_names : Library → List TypeName
described_names library = filter (λ name. not name.external) (own_names library)

-- by what an external name is told from others
abbrev pub path_and_arity : TypeName → List ℕ × ℕ
path_and_arity name = (name.path, name.arity)

-- the identifier is one of the units
abbrev pub IsUnit : Library → List ℕ → Type 0
IsUnit library identifier = Contains (map (λ unit. unit.id) library.units) identifier

-- the path begins with the identifier of a unit
abbrev pub BeginsWithUnit : Library → List ℕ → Type 0
BeginsWithUnit library path = (identifier : List ℕ) × IsUnit library identifier × BeginsWith identifier path

-- a label: an identifier without dots or a numeral, of at most 255 bytes
abbrev pub IsLabel : List ℕ → Type 0
IsLabel text = IsShort text × (IsIdentifier text ⊎ IsNumeral text)

-- a type over the names of the library, whose labels are all such ones
pub record IsTypeOf (library : Library) (t : Ty) : Type 0 where
  pub over : IsTypeOver library.names t
  pub labels : All IsLabel (labels_of t)

-- a type of at most 2,000 nodes, at most 200 of them on a way down from the root
pub record IsWithinLimits (t : Ty) : Type 0 where
  pub nodes : size_of t ≤ 2000
  pub height : height_of t ≤ 200

-- a library is valid where it meets these rules; those on paths and names don't speak of the initial names
pub record IsValidLibrary (library : Library) : Type 0 where
  -- the identifiers of units are distinct alphanumeric identifiers
  pub units_distinct : AreDistinct (map (λ unit. unit.id) library.units)
  pub units_alphanumeric : All (λ unit. IsAlphanumeric unit.id) library.units
  pub units_short : All (λ unit. IsShort unit.id) library.units
  -- paths are long identifiers of at least two parts
  pub name_paths : All (λ name. IsTypePath name.path) (own_names library)
  pub tycon_paths : All (λ tycon. IsTypePath tycon.path) library.tycons
  pub member_paths : All (λ member. IsMemberPath member.path) library.members
  -- the names begin with the initial ones
  pub initial : library.names ≡ initial_names ++ own_names library
  -- the path of each tycon, each member and each described name begins with a unit, and that of an external name doesn't
  pub tycons_in_units : All (λ tycon. BeginsWithUnit library tycon.path) library.tycons
  pub members_in_units : All (λ member. BeginsWithUnit library member.path) library.members
  pub described_in_units : All (λ name. BeginsWithUnit library name.path) (described_names library)
  pub external_outside_units : All (λ name. ¬ (BeginsWithUnit library name.path)) (external_names library)
  -- an external name admits equality where its arguments do, and a described one does so or never
  pub external_equality : All (λ name. name.equality ≡ IfArgs) (external_names library)
  pub described_equality : All (λ name. (name.equality ≡ Never) ⊎ (name.equality ≡ IfArgs)) (described_names library)
  -- paths are distinct among tycons, among members and among described names, and pairs of path and arity among external names
  pub tycons_distinct : AreDistinct (map (λ tycon. tycon.path) library.tycons)
  pub members_distinct : AreDistinct (map (λ member. member.path) library.members)
  pub described_distinct : AreDistinct (map (λ name. name.path) (described_names library))
  pub external_distinct : AreDistinct (map path_and_arity (external_names library))
  -- each described name has a tycon of its path
  pub described_have_tycons : All (λ name. Contains (map (λ tycon. tycon.path) library.tycons) name.path) (described_names library)
  -- arities are at most 1,999
  pub name_arities : All (λ name. name.arity ≤ 1999) (own_names library)
  pub tycon_arities : All (λ tycon. tycon.fun.arity ≤ 1999) library.tycons
  -- the types are types over the names with labels as they are written, in type functions and in schemes
  pub tycon_functions : All (λ tycon. IsTypeFn tycon.fun) library.tycons
  pub tycon_types : All (λ tycon. IsTypeOf library tycon.fun.body) library.tycons
  pub member_schemes : All (λ member. IsScheme member.scheme) library.members
  pub member_types : All (λ member. IsTypeOf library member.scheme.body) library.members
  -- all limits hold
  pub tycon_limits : All (λ tycon. IsWithinLimits tycon.fun.body) library.tycons
  pub member_limits : All (λ member. IsWithinLimits member.scheme.body) library.members
  pub normal_limits : All (λ member. normal_size_of member.scheme.body ≤ 8000) library.members
  pub normal_sum : sum_of (map (λ member. normal_size_of member.scheme.body) library.members) ≤ 4000000
  pub member_limit : length library.members ≤ 100000
  pub weight_limit : library_weight library ≤ 8000000
