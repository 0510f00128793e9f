-- What holds of where a body stands.
use Rattle.std.specs.Prelude.{◌≡◌, ◌≤◌, ◌<◌, ◌+◌, ◌++◌, ℕ, List, Some, length, slice_get, take}
use Rattle.std.specs.List.{All}
use Rattle.type_core.specs.declared.names.TypeName.{TypeName}
use Rattle.sig_parser.specs.declared.tree.DataDesc.{DataDesc}
use Rattle.type_core.specs.declared.ty.Scheme.{Scheme}
use Rattle.type_core.specs.declared.ty.Ty.{Ty}
use Rattle.type_core.specs.Schemes.{closed}
use Rattle.type_core.specs.Types.{IsOver}
use Rattle.elab_env.specs.declared.realization.Realization.{Realization}
use Rattle.elab_env.specs.Sound.{IsResolved}
use Rattle.elab_env.specs.Table.{Table}
use Rattle.elab_rules.specs.declared.entry.UnitEntry.{UnitEntry}
use Rattle.elab_rules.specs.declared.found.Found.{Found}
use Rattle.elab_rules.specs.declared.found.Sought.{Sought}
use Rattle.elab_rules.specs.declared.found.Sought.TheVariants as sought
use Rattle.elab_rules.specs.declared.progress.Progress.{Progress}
use Rattle.elab_rules.specs.declared.site.Site.{Site}
use Rattle.elab_rules.specs.Environments.{Environment}
use Rattle.elab_rules.specs.Details.{HaveOwn}
use Rattle.elab_rules.specs.InitialEnvironment.{initial_environment}
use Rattle.elab_rules.specs.Parameters.{marked, variables_at}
use Rattle.elab_rules.specs.Replacing.{environment_with}
use Rattle.elab_rules.specs.Tracking.{IsTracked}
use Rattle.elab_rules.specs.Views.{site_of, state_of}
use Rattle.elab_rules.specs.Wheres.{types_of}

-- all types of the environment are over the names
abbrev pub AreOver : List TypeName → Environment → Type 0
AreOver names env = All (IsOver names) (types_of env)

-- the environment is over the names, its types mention no name that is gone, and its schemes are closed
pub record IsSettled (table : Table) (env : Environment) : Type 0 where
  pub over : AreOver table.names env
  pub resolved : All (IsResolved table.realizations) (types_of env)
  pub is_closed : environment_with (λ t. t) env ≡ env

-- a name below the number was realized by a type over the names below it
abbrev pub IsEarly : ℕ → List TypeName → Realization → Type 0
IsEarly base names r = r.name.0 < base → IsOver (take base names) r.fun.body

-- what is seen from a site is over the names, and units are settled, with their own names kept beside them
pub record Sees (progress : Progress) (site : Site) (own : Environment) : Type 0 where
  pub around : All (AreOver progress.table.names) (site_of site).around
  pub units : All (λ unit. IsSettled progress.table unit.entries) (site_of site).units
  pub kept_before : HaveOwn (state_of progress) site.tops.before.now.details.items site.tops.before.now.entries.items
  pub kept_added : HaveOwn (state_of progress) site.tops.added.now.details.items site.tops.added.now.entries.items
  pub body : AreOver progress.table.names own

-- the names that were made for the unit are below the number
abbrev pub IsMadeBelow : ℕ → UnitEntry → Type 0
IsMadeBelow base unit = unit.first_name + unit.name_count ≤ base

-- for an expression that began with so many names: what stands around is over these names, and no earlier name was
-- realized by a type with a later one; so what is realized from then on changes nothing around
pub record StandsFrom (base : ℕ) (progress : Progress) (site : Site) (own : Environment) : Type 0 where
  pub sees : Sees progress site own
  pub begun : base ≤ length progress.table.names
  pub around : All (AreOver (take base progress.table.names)) (site_of site).around
  pub units : All (λ unit. AreOver (take base progress.table.names) unit.entries) (site_of site).units
  pub made_before : All (IsMadeBelow base) site.tops.before.now.entries.items
  pub made_added : All (IsMadeBelow base) site.tops.added.now.entries.items
  pub early : All (IsEarly base progress.table.names) progress.table.realizations

-- the same for a body
abbrev pub Stands : Progress → Site → Environment → Type 0
Stands progress site own = StandsFrom site.base progress site own

-- the same where an expression begins
abbrev pub Begins : Progress → Site → Environment → Type 0
Begins progress site own = StandsFrom (length progress.table.names) progress site own

-- the tree is over the names and mentions no name that is gone
pub record IsSettledType (table : Table) (t : Ty) : Type 0 where
  pub over : IsOver table.names t
  pub resolved : IsResolved table.realizations t

-- the scheme's type is settled, and the scheme is closed
pub record IsSettledScheme (table : Table) (s : Scheme) : Type 0 where
  pub body : IsSettledType table s.body
  pub is_closed : closed s.body ≡ s

-- the type that each datatype of a group makes is settled, where their names are numbered from a number on
abbrev pub AreMade : Table → ℕ → List (List ℕ) → List DataDesc → Type 0
AreMade table first texts ds = (i : ℕ) (d : DataDesc) → slice_get ds i ≡ Some d → IsSettledType table (marked (first + i) (variables_at texts d.params))

-- what a name keeps that it was made with: all but its equality
pub record IsSameName (old new : TypeName) : Type 0 where
  pub path : new.path ≡ old.path
  pub arity : new.arity ≡ old.arity
  pub external : new.external ≡ old.external

-- each name is there as it was made
abbrev pub KeepsNames : Progress → Progress → Type 0
KeepsNames old new = (n : ℕ) (name : TypeName) → slice_get old.table.names n ≡ Some name → (later : TypeName) × ((slice_get new.table.names n ≡ Some later) × IsSameName name later)

-- names may have been added, and what is kept of those from elsewhere is so again
pub record Mentions (old new : Progress) : Type 0 where
  pub names : KeepsNames old new
  pub tracked : IsTracked old → IsTracked new
  pub realizations : new.table.realizations ≡ old.table.realizations

-- names may have been added, and names from a number on realized or joined away; what is kept of those from elsewhere is
-- so again
pub record Grew (base : ℕ) (old new : Progress) : Type 0 where
  pub names : KeepsNames old new
  pub tracked : IsTracked old → IsTracked new
  pub more : List Realization
  pub realizations : new.table.realizations ≡ old.table.realizations ++ more
  pub later : All (λ r. base ≤ r.name.0) more

-- what a look-up goes through is over the names
pub record SeesOver (names : List TypeName) (site : Site) (own : Environment) : Type 0 where
  pub around : All (AreOver names) (site_of site).around
  pub units : All (λ unit. AreOver names unit.entries) (site_of site).units
  pub initial : AreOver names initial_environment
  pub body : AreOver names own

-- the type constructor is over the names, and so is the environment in which it stands
pub record IsFoundOver (names : List TypeName) (found : Found) : Type 0 where
  pub entry : IsOver names found.entry.now.fun.body
  pub env : AreOver names found.env.entries.now

-- what was found, where something was, is over the names
abbrev pub IsSoughtOver : List TypeName → Sought → Type 0
IsSoughtOver names (sought.Known found) = IsFoundOver names found
IsSoughtOver names sought.Missing = Unit {0}
IsSoughtOver names sought.Elsewhere = Unit {0}
