-- What two structures have along the same paths.
use Rattle.std.specs.Prelude.{◌≡◌, ℕ, IsTrue, is_some, List, Option, Some, None}
use Rattle.std.specs.Option.{option_map}
use Rattle.elab_env.specs.declared.realization.Realization.{Realization}
use Rattle.elab_env.specs.Realizations.{function_resolved}
use Rattle.elab_rules.specs.declared.entry.TypeEntry.{TypeEntry}
use Rattle.elab_rules.specs.Environments.{Environment}
use Rattle.elab_rules.specs.LongIdentifiers.{type_along}

-- the type constructor at the end of a path
abbrev pub entry_along : List (List ℕ) → Environment → Option TypeEntry
entry_along path env = option_map (λ found. found.entry) (type_along path env)

-- a relation holds of what two environments have along each path
abbrev pub AlongEachPath : (Option TypeEntry → Option TypeEntry → Type 0) → Environment → Environment → Type 0
AlongEachPath R env other = (path : List (List ℕ)) → R (entry_along path env) (entry_along path other)

-- two type constructors are one type function after these realizations, where both are there
abbrev pub AreSame : List Realization → Option TypeEntry → Option TypeEntry → Type 0
AreSame rs None g = Unit {0}
AreSame rs (Some f) None = Unit {0}
AreSame rs (Some f) (Some g) = function_resolved rs f.fun ≡ function_resolved rs g.fun

-- the second is there where the first is
abbrev pub IsThere : Option TypeEntry → Option TypeEntry → Type 0
IsThere None g = Unit {0}
IsThere (Some f) g = IsTrue (is_some g)

-- after these realizations, the type constructors of the same path are the same
abbrev pub AreShared : List Realization → Environment → Environment → Type 0
AreShared rs = AlongEachPath (AreSame rs)

-- for each type constructor, the other environment has one of its path
abbrev pub AreThere : Environment → Environment → Type 0
AreThere = AlongEachPath IsThere
