-- What holds of the basis after each file that is accepted.
use Rattle.std.specs.Prelude.{◌≡◌, ◌≢◌, ℕ, ◌+◌, ◌≤◌, ◌⊎◌, ◌&&◌, Bool, true, false, not, IsTrue, List, [], ◌∷◌, ◌++◌, Some, drop, length, map, slice_get, slice_index_or, take}
use Rattle.std.specs.List.{All, Contains, filter}
use Rattle.sig_base.specs.Identifiers.{IsAlphanumeric}
use Rattle.type_core.specs.declared.names.Equality.TheVariants.{Never, IfArgs}
use Rattle.type_core.specs.declared.names.TypeName.{TypeName}
use Rattle.type_core.specs.declared.ty.Scheme.{Scheme}
use Rattle.type_core.specs.declared.ty.Ty.{Ty}
use Rattle.type_core.specs.declared.ty.Ty.TheFolds.{fold-Ty}
use Rattle.type_core.specs.declared.ty.Ty.TheOpen.{Ty-F, Field-F, Var, Con, Rec, Tup, Arrow}
use Rattle.type_core.specs.declared.type_fn.TypeFn.{TypeFn}
use Rattle.type_core.specs.InitialNames.{initial_names}
use Rattle.type_core.specs.Lists.{all_true, concatenated, sum_of}
use Rattle.type_core.specs.NormalSize.{normal_size_of}
use Rattle.sig_base.specs.LongIdentifiers.{IsShort, parts}
use Rattle.type_core.specs.Paths.{IsMemberIdentifier, IsTypeIdentifier, IsTypePath}
use Rattle.type_core.specs.Schemes.{IsScheme}
use Rattle.type_core.specs.TypeFunctions.{IsTypeFn}
use Rattle.type_core.specs.Types.{IsType, takes}
use Rattle.type_core.specs.ValidLibrary.{AreDistinct as AllDistinct, IsLabel, IsWithinLimits, path_and_arity}
use Rattle.type_core.specs.Weight.{labels_of, library_weight}
use Rattle.elab_rules.specs.declared.entry.Entry.{Entry}
use Rattle.elab_rules.specs.declared.entry.TypeEntry.{TypeEntry}
use Rattle.elab_rules.specs.declared.entry.UnitEntry.{UnitEntry}
use Rattle.elab_rules.specs.declared.entry.ValueEntry.{ValueEntry}
use Rattle.elab_rules.specs.Distinct.{AreDistinct}
use Rattle.elab_rules.specs.Environments.{Environment, the_structure, the_type, the_value}
use Rattle.elab_rules.specs.Files.{first_of}
use Rattle.elab_rules.specs.Library.{Basis, entry_tycons, kept_names, library}
use Rattle.elab_rules.specs.States.{State}

-- which names may stand in a type, by their numbers and by how many arguments they are applied to
abbrev pub Known : Type 0
Known = ℕ → ℕ → Bool

abbrev pub names_step : Known → Ty-F Bool Bool → Bool
names_step known (Var v) = true
names_step known (Con name arguments) = known name.0 (length arguments) && all_true arguments
names_step known (Rec fields) = all_true fields
names_step known (Tup components) = all_true components
names_step known (Arrow from to) = from && to

abbrev pub names_field_step : Field-F Bool Bool → Bool
names_field_step field = field.ty

-- whether each name in the type may stand there
unfoldable pub names_known : Known → Ty → Bool
names_known known = fold-Ty Bool Bool (names_step known) names_field_step

-- the names of a state that are neither realized nor joined away, each with as many arguments as it takes
abbrev pub known_by : State → Known
known_by s n count = takes (slice_get s.names n) count && not (slice_index_or s.gone n false)

-- a type in which these names stand, whose labels are spelled as labels are
pub record IsSoundType (known : Known) (t : Ty) : Type 0 where
  pub is_type : IsType t
  pub names : IsTrue (names_known known t)
  pub labels : All IsLabel (labels_of t)

-- a type function whose body is such a type
pub record IsFormedFunction (known : Known) (f : TypeFn) : Type 0 where
  pub arity : f.arity ≤ 1999
  pub function : IsTypeFn f
  pub body : IsSoundType known f.body

-- the same within the limits
pub record IsSoundFunction (known : Known) (f : TypeFn) : Type 0 where
  pub formed : IsFormedFunction known f
  pub limits : IsWithinLimits f.body

-- a scheme whose body is such a type
pub record IsFormedScheme (known : Known) (s : Scheme) : Type 0 where
  pub scheme : IsScheme s
  pub body : IsSoundType known s.body

-- the same within the limits
pub record IsSoundScheme (known : Known) (s : Scheme) : Type 0 where
  pub formed : IsFormedScheme known s
  pub limits : IsWithinLimits s.body
  pub normal : normal_size_of s.body ≤ 8000

-- an identifier that a type constructor may have
pub record IsTypeId (id : List ℕ) : Type 0 where
  pub spelled : IsTypeIdentifier id
  pub short : IsShort id

-- an identifier that a value may have
pub record IsValueId (id : List ℕ) : Type 0 where
  pub spelled : IsMemberIdentifier id
  pub short : IsShort id

-- an identifier that a structure or a signature may have
pub record IsUnitId (id : List ℕ) : Type 0 where
  pub alphanumeric : IsAlphanumeric id
  pub short : IsShort id

-- a type constructor, and what it stands for
pub record IsSoundTycon (known : Known) (entry : TypeEntry) : Type 0 where
  pub id : IsTypeId entry.id
  pub fun : IsSoundFunction known entry.fun

-- a value, and its scheme
pub record IsSoundValue (known : Known) (entry : ValueEntry) : Type 0 where
  pub id : IsValueId entry.id
  pub scheme : IsSoundScheme known entry.scheme

-- what is so of each type constructor, of each value and of the identifier of each structure, at every depth
pub data AreAll (OfType : TypeEntry → Type 0) (OfValue : ValueEntry → Type 0) (OfStructure : List ℕ → Type 0) : List Entry → Type 0 where
  no_entries : AreAll OfType OfValue OfStructure []
  type_entry : {type : TypeEntry} {entries : List Entry} → OfType type → AreAll OfType OfValue OfStructure entries → AreAll OfType OfValue OfStructure (the_type type ∷ entries)
  value_entry : {value : ValueEntry} {entries : List Entry} → OfValue value → AreAll OfType OfValue OfStructure entries → AreAll OfType OfValue OfStructure (the_value value ∷ entries)
  structure_entry : {id : List ℕ} {inner entries : List Entry} → OfStructure id → AreAll OfType OfValue OfStructure inner → AreAll OfType OfValue OfStructure entries
      → AreAll OfType OfValue OfStructure (the_structure id inner ∷ entries)

-- an environment in which these names stand: each entry is sound, and no identifier stands twice
pub record IsSoundEnvironment (known : Known) (env : Environment) : Type 0 where
  pub entries : AreAll (IsSoundTycon known) (IsSoundValue known) IsUnitId env
  pub distinct : AreDistinct env

-- the paths of the type constructors of an environment that stands at a path
abbrev pub paths_within : List ℕ → Environment → List (List ℕ)
paths_within path env = map (λ tycon. tycon.path) (concatenated (map (λ entry. entry_tycons entry path) env))

-- the paths of the described names that are left
abbrev pub made_paths : List TypeName → List Bool → List (List ℕ)
made_paths names flags = map (λ name. name.path) (filter (λ name. not name.external) (kept_names names flags))

-- each described name that is left has another path, which is one of these
pub record AreNamed (paths : List (List ℕ)) (names : List TypeName) (flags : List Bool) : Type 0 where
  pub described : All (Contains paths) (made_paths names flags)
  pub distinct : AllDistinct (made_paths names flags)

-- a name from elsewhere: the first part of its path is none of the top identifiers
pub record IsFromElsewhere (tops : List (List ℕ)) (name : TypeName) : Type 0 where
  pub path : IsTypePath name.path
  pub equality : name.equality ≡ IfArgs
  pub elsewhere : All (λ top. top ≢ first_of (parts name.path)) tops

-- a name: one that a file describes admits equality as its arguments do or never
pub record IsSoundName (tops : List (List ℕ)) (name : TypeName) : Type 0 where
  pub arity : name.arity ≤ 1999
  pub described : name.external ≡ false → (name.equality ≡ Never) ⊎ (name.equality ≡ IfArgs)
  pub external : name.external ≡ true → IsFromElsewhere tops name

-- the initial names, and then sound ones, of which those from elsewhere differ in path or arity
pub record AreSoundNames (tops : List (List ℕ)) (names : List TypeName) : Type 0 where
  pub own : List TypeName
  pub whole : names ≡ initial_names ++ own
  pub each : All (IsSoundName tops) own
  pub apart : AllDistinct (map path_and_arity (filter (λ name. name.external) own))

-- a unit: what it has is sound, and has the type constructors of the described names that were made for it
pub record IsSoundUnit (s : State) (unit : UnitEntry) : Type 0 where
  pub id : IsUnitId unit.id
  pub entries : IsSoundEnvironment (known_by s) unit.entries
  pub later : length initial_names ≤ unit.first_name
  pub made : unit.first_name + unit.name_count ≤ length s.names
  pub named : AreNamed (paths_within unit.id unit.entries) (take unit.name_count (drop unit.first_name s.names)) (take unit.name_count (drop unit.first_name s.gone))

-- the paths of all type constructors of units
abbrev pub unit_paths : List UnitEntry → List (List ℕ)
unit_paths units = concatenated (map (λ unit. paths_within unit.id unit.entries) units)

-- the names of a state: they are sound, each has its flag, and no name from elsewhere is gone
pub record HasSoundNames (tops : List (List ℕ)) (s : State) : Type 0 where
  pub names : AreSoundNames tops s.names
  pub counted : length s.gone ≡ length s.names
  pub stay : (n : ℕ) (name : TypeName) → slice_get s.names n ≡ Some name → name.external ≡ true → slice_index_or s.gone n false ≡ false

-- the initial names stay, and those after them have the type constructors of units
pub record IsSoundState (tops : List (List ℕ)) (paths : List (List ℕ)) (s : State) : Type 0 where
  pub sound : HasSoundNames tops s
  pub flags : List Bool
  pub gone : s.gone ≡ map (λ name. false) initial_names ++ flags
  pub named : AreNamed paths sound.names.own flags

-- what holds of the basis, where these are the top identifiers that are declared or being declared: names and units are
-- sound, and the library is within its limits
pub record IsSound (tops : List (List ℕ)) (basis : Basis) : Type 0 where
  pub state : IsSoundState tops (unit_paths basis.units) basis.state
  pub units : All (IsSoundUnit basis.state) basis.units
  pub units_distinct : AllDistinct (map (λ unit. unit.id) basis.units)
  pub member_limit : length (library basis).members ≤ 100000
  pub weight_limit : library_weight (library basis) ≤ 8000000
  pub normal_sum : sum_of (map (λ member. normal_size_of member.scheme.body) (library basis).members) ≤ 4000000

-- a basis in which nothing is being declared
abbrev pub IsSoundBasis : Basis → Type 0
IsSoundBasis basis = IsSound (map (λ unit. unit.id) basis.units) basis
