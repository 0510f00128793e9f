-- Looking up type constructors: in the bodies, among the initial types, in top structures, and elsewhere.
use Rattle.std.specs.Prelude.{ℕ, ◌+◌, ◌||◌, Bool, true, false, not, bytes_eq, if◌then◌else◌, List, [], ◌∷◌, ◌++◌, Option, Some, None, length, Ok}
use Rattle.std.specs.Option.{option_and_then, option_or}
use Rattle.type_core.specs.declared.library.UnitKind.{UnitKind}
use Rattle.type_core.specs.declared.library.UnitKind.TheVariants.{Sig, Str}
use Rattle.type_core.specs.declared.type_fn.TypeFn.{TypeFn}
use Rattle.elab_env.specs.Names.{external, external_number}
use Rattle.elab_env.specs.Parameters.{name_function}
use Rattle.elab_rules.specs.declared.entry.UnitEntry.{UnitEntry}
use Rattle.elab_rules.specs.declared.refusal.Why.TheVariants.{Unbound}
use Rattle.elab_rules.specs.Bodies.{Site}
use Rattle.elab_rules.specs.Environments.{Environment, structure_in, type_in}
use Rattle.elab_types.specs.Finding.{first_given, none_of}
use Rattle.elab_rules.specs.InitialEnvironment.{initial_environment}
use Rattle.sig_base.specs.LongIdentifiers.{parts}
use Rattle.elab_rules.specs.LongIdentifiers.{Found, found_in, type_along}
use Rattle.elab_rules.specs.Outcome.{Outcome}
use Rattle.elab_types.specs.Outcome.{and_then, failed}
use Rattle.elab_types.specs.Sources.{text_at}
use Rattle.elab_rules.specs.States.{State, weighed}

-- what a long identifier stands for: a type constructor that was found, none, or a name from elsewhere
pub data Sought : Type 0 where
  Known : Found → Sought
  Missing : Sought
  Elsewhere : Sought

abbrev pub known : Option Found → Sought
known None = Missing
known (Some found) = Known found

-- the type constructor of an identifier: in the bodies from within outwards, else among the initial types
abbrev pub simple_sought : List ℕ → List Environment → Sought
simple_sought id bodies =
    known (option_or (first_given (λ env. found_in env (type_in id env)) bodies)
    (found_in initial_environment (type_in id initial_environment)))

-- the top identifier's unit
abbrev pub unit_in : List ℕ → List UnitEntry → Option UnitEntry
unit_in id units = first_given (λ unit. if bytes_eq id unit.id then Some unit else None) units

-- what a unit has, where it is a structure
abbrev pub structure_entries : UnitKind → UnitEntry → Option Environment
structure_entries Sig unit = None
structure_entries Str unit = Some unit.entries

-- what the top structure of this identifier has
abbrev pub top_structure : List ℕ → List UnitEntry → Option Environment
top_structure id units = option_and_then (λ unit. structure_entries unit.kind unit) (unit_in id units)

-- the structure of an identifier: in the bodies from within outwards, else among the top structures
abbrev pub structure_sought : List ℕ → Site → List Environment → Option Environment
structure_sought id site bodies = option_or (first_given (structure_in id) bodies) (top_structure id site.units)

-- whether the identifier was declared at the top, or is being declared
abbrev pub is_top : List ℕ → Site → Bool
is_top id site = not (none_of (λ unit. bytes_eq id unit.id) site.units) || not (none_of (bytes_eq id) site.declaring)

-- the rest of a path in the structure of its first part, where there is one; else it stands for a name from elsewhere
abbrev pub along_sought : List (List ℕ) → Option Environment → Bool → Sought
along_sought rest (Some env) is_declared = known (type_along rest env)
along_sought rest None true = Missing
along_sought rest None false = Elsewhere

-- the type constructor of a long identifier, by its parts
abbrev pub sought : List (List ℕ) → Site → List Environment → Sought
sought [] site bodies = Missing
sought (id ∷ []) site bodies = simple_sought id bodies
sought (id ∷ next ∷ rest) site bodies = along_sought (next ∷ rest) (structure_sought id site bodies) (is_top id site)

-- the number that an external name of this path and arity gets, and the state with it; a new one is weighed
abbrev pub external_named : List ℕ → ℕ → ℕ → Option ℕ → State → Outcome (ℕ × State)
external_named path arity token (Some n) s = Ok (n, s)
external_named path arity token None s =
    and_then (weighed (1 + length path) token s) (λ after.
    Ok (length s.names, record { names = s.names ++ external path arity ∷ []; gone = s.gone ++ false ∷ []; weight = after.weight }))

-- the type function that was sought; a name from elsewhere is that of this path and number of arguments
abbrev pub function_sought : Sought → List ℕ → ℕ → ℕ → State → Outcome (TypeFn × State)
function_sought (Known found) path arity token s = Ok (found.entry.fun, s)
function_sought Missing path arity token s = failed Unbound token
function_sought Elsewhere path arity token s =
    and_then (external_named path arity token (external_number path arity s.names) s) (λ r. Ok (name_function r.0 arity, r.1))

-- the type function of the long identifier at a token, which is applied to so many arguments
abbrev pub function_at : ℕ → ℕ → Site → Environment → State → Outcome (TypeFn × State)
function_at token count site own s =
    function_sought (sought (parts (text_at site.texts token)) site (own ∷ site.around)) (text_at site.texts token) count token s

-- what a replication copies: a name from elsewhere has no constructors that are known, so it is none
abbrev pub datatype_sought : Sought → Option Found
datatype_sought (Known found) = Some found
datatype_sought Missing = None
datatype_sought Elsewhere = None

abbrev pub datatype_at : ℕ → Site → Environment → Option Found
datatype_at token site own = datatype_sought (sought (parts (text_at site.texts token)) site (own ∷ site.around))
