-- What stands along the parts of long identifiers in environments.
use Rattle.std.specs.Prelude.{ℕ, List, [], ◌∷◌, Option, Some, None}
use Rattle.std.specs.Option.{option_and_then}
use Rattle.elab_rules.specs.declared.entry.TypeEntry.{TypeEntry}
use Rattle.elab_rules.specs.declared.entry.ValueEntry.{ValueEntry}
use Rattle.elab_rules.specs.Environments.{Environment, structure_in, type_in, values_in}

-- a type constructor that was found, and its constructors
pub record Found : Type 0 where
  pub entry : TypeEntry
  pub constructors : List ValueEntry

-- a type constructor of an environment, with its constructors there
abbrev pub found_in : Environment → Option TypeEntry → Option Found
found_in env None = None
found_in env (Some entry) = Some (record { entry = entry; constructors = values_in entry.constructors env })

-- the environment along a path of structures
abbrev pub structure_along : List (List ℕ) → Environment → Option Environment
structure_along [] env = Some env
structure_along (id ∷ ids) env = option_and_then (structure_along ids) (structure_in id env)

-- the type constructor at the end of a path, whose other parts are structures
abbrev pub type_along : List (List ℕ) → Environment → Option Found
type_along [] env = None
type_along (id ∷ []) env = found_in env (type_in id env)
type_along (id ∷ next ∷ ids) env = option_and_then (type_along (next ∷ ids)) (structure_in id env)
