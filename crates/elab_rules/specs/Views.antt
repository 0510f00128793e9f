-- What the contracts of the code see of its values: environments as they are by now, with all names replaced that were
-- realized or joined away.
use Rattle.std.specs.Prelude.{◌≡◌, ℕ, Bool, List, [], ◌∷◌, ◌++◌, Option, Result, Ok, Err, length, map, take}
use Rattle.std.specs.Option.{option_map}
use Rattle.type_core.specs.declared.ty.NameId.{NameId}
use Rattle.elab_env.specs.Realizations.{resolved}
use Rattle.elab_env.specs.Table.{Table, is_realized}
use Rattle.elab_rules.specs.declared.body.Body.{Body}
use Rattle.elab_rules.specs.declared.entry.UnitEntry.{UnitEntry}
use Rattle.elab_rules.specs.declared.family.Family.{Family}
use Rattle.elab_rules.specs.declared.found.Found.{Found}
use Rattle.elab_rules.specs.declared.found.Sought.{Sought}
use Rattle.elab_rules.specs.declared.found.Sought.TheVariants as sought
use Rattle.elab_rules.specs.declared.place.Place.{Place}
use Rattle.elab_rules.specs.declared.progress.Progress.{Progress}
use Rattle.elab_rules.specs.declared.refusal.ElabRefusal.{ElabRefusal}
use Rattle.elab_rules.specs.declared.refusal.ElabRefusal.TheVariants.{Refused, NoMemory}
use Rattle.elab_rules.specs.declared.scope.Scope.{Scope}
use Rattle.elab_rules.specs.declared.site.Site.{Site}
use Rattle.elab_rules.specs.declared.tops.Tops.{Tops}
use Rattle.elab_rules.specs.declared.detail.Top.{Top}
use Rattle.elab_rules.specs.declared.variables.Variables.{Variables}
use Rattle.elab_rules.specs.declared.variables.Variables.TheVariants as variables
use Rattle.elab_rules.specs.Bodies as bodies
use Rattle.elab_rules.specs.Constructors as constructors
use Rattle.elab_rules.specs.Copies.{numbers_from}
use Rattle.elab_rules.specs.Environments.{Environment, values_in}
use Rattle.elab_rules.specs.LongIdentifiers as paths
use Rattle.elab_rules.specs.LookUps as look_ups
use Rattle.elab_rules.specs.Outcome.{Outcome}
use Rattle.elab_types.specs.Outcome.{failed}
use Rattle.elab_rules.specs.Replacing.{environment_with}
use Rattle.elab_types.specs.Sources.{text_at}
use Rattle.elab_types.specs.Views.{texts}
use Rattle.elab_rules.specs.States.{State}
use Rattle.elab_rules.specs.Types as spec

abbrev pub variables_of : Variables → spec.Variables
variables_of variables.Any = spec.Any
variables_of (variables.Parameters marks parameters) = spec.Parameters marks parameters.now

-- for each name of a table whether it was realized or joined away
abbrev pub gone_of : Table → List Bool
gone_of table = map (is_realized table.realizations) (numbers_from 0 (length table.names))

-- the state: the names of the table, which of them are gone, and the weight
abbrev pub state_of : Progress → State
state_of progress = record { names = progress.table.names; gone = gone_of progress.table; weight = progress.weight }

-- the environment that entries are by now
abbrev pub entries_at : Table → Environment → Environment
entries_at table entries = environment_with (resolved table.realizations) entries

-- the same by a state of the code
abbrev pub body_at : Progress → Environment → Environment
body_at progress entries = entries_at progress.table entries

-- the bodies around, from within outwards, as they were written
abbrev pub around_of : List Scope → List Environment
around_of [] = []
around_of (scope ∷ scopes) = around_of scopes ++ scope.entries.now ∷ []

-- the units that a declaration sees
abbrev pub units_seen : Tops → List UnitEntry
units_seen tops = tops.before.now.entries.items ++ take tops.count tops.added.now.entries.items

-- a site, with the entries of the bodies around as they were written
abbrev pub site_of : Site → bodies.Site
site_of site = record {
  texts = texts site.source;
  path = site.path.now;
  around = around_of site.around.now;
  base = site.base;
  units = units_seen site.tops;
  declaring = map (λ bind. text_at (texts site.source) bind.id) site.binds.now;
}

-- a site by now; the types of units mention no name that is gone
abbrev pub site_at : Progress → Site → bodies.Site
site_at progress site = record {
  texts = (site_of site).texts;
  path = (site_of site).path;
  around = map (body_at progress) (site_of site).around;
  base = (site_of site).base;
  units = (site_of site).units;
  declaring = (site_of site).declaring;
}

-- the bodies that a look-up goes through, as they were written
abbrev pub bodies_seen : Scope → Site → List Environment
bodies_seen own site = own.entries.now ∷ around_of site.around.now

-- a place by now
abbrev pub place_by_now : Progress → Place → spec.Place
place_by_now progress place = record {
  site = site_at progress place.site;
  own = body_at progress place.own.entries.now;
  first = place.first;
  variables = variables_of place.variables;
}

abbrev pub family_of : Family → constructors.Family
family_of family = record { kind = family.kind; made = family.made.now; variables = variables_of family.variables }

-- what a look-up finds, as it was written
abbrev pub found_of : Found → paths.Found
found_of found = record { entry = found.entry.now; constructors = values_in found.entry.now.constructors found.env.entries.now }

abbrev pub found_seen : Option Found → Option paths.Found
found_seen found = option_map found_of found

abbrev pub entries_seen : Option Scope → Option Environment
entries_seen found = option_map (λ scope. scope.entries.now) found

abbrev pub sought_of : Sought → look_ups.Sought
sought_of (sought.Known found) = look_ups.Known (found_of found)
sought_of sought.Missing = look_ups.Missing
sought_of sought.Elsewhere = look_ups.Elsewhere

abbrev pub unit_seen : Option Top → Option UnitEntry
unit_seen found = option_map (λ top. top.unit.now) found

abbrev pub number_of : Option NameId → Option ℕ
number_of found = option_map (λ name. name.0) found

abbrev pub numbers : List NameId → List ℕ
numbers names = map (λ name. name.0) names

-- the answer is the body by now and the state of the outcome; want of memory is free
abbrev pub GivesBody : bodies.Described → Result Body ElabRefusal → Progress → Type 0
GivesBody outcome (Ok body) progress = outcome ≡ Ok (body_at progress body.entries.items, state_of progress)
GivesBody outcome (Err (Refused why token)) progress = outcome ≡ failed why token
GivesBody outcome (Err NoMemory) progress = Unit {0}

-- the entries, which stay as they were written, and the state are by now those of the outcome
abbrev pub AgreesBody : bodies.Described → Result (Unit {0}) ElabRefusal → Environment → Progress → Type 0
AgreesBody outcome (Ok done) entries progress = outcome ≡ Ok (body_at progress entries, state_of progress)
AgreesBody outcome (Err (Refused why token)) entries progress = outcome ≡ failed why token
AgreesBody outcome (Err NoMemory) entries progress = Unit {0}

-- the answer is the number of a name, and the state afterwards that of the outcome
abbrev pub GivesNumber : Outcome (ℕ × State) → Result NameId ElabRefusal → State → Type 0
GivesNumber outcome (Ok name) s = outcome ≡ Ok (name.0, s)
GivesNumber outcome (Err (Refused why token)) s = outcome ≡ failed why token
GivesNumber outcome (Err NoMemory) s = Unit {0}

-- the answer is the number of a name
abbrev pub GivesName : Outcome ℕ → Result NameId ElabRefusal → Type 0
GivesName outcome (Ok name) = outcome ≡ Ok name.0
GivesName outcome (Err (Refused why token)) = outcome ≡ failed why token
GivesName outcome (Err NoMemory) = Unit {0}

-- the answer is the numbers of names
abbrev pub GivesNames : Outcome (List ℕ) → Result (List NameId) ElabRefusal → Type 0
GivesNames outcome (Ok names) = outcome ≡ Ok (numbers names)
GivesNames outcome (Err (Refused why token)) = outcome ≡ failed why token
GivesNames outcome (Err NoMemory) = Unit {0}

-- the answer is some value where the outcome is one
abbrev pub Passes : {A : Type 0} → Outcome (Unit {0}) → Result A ElabRefusal → Type 0
Passes outcome (Ok a) = outcome ≡ Ok tt
Passes outcome (Err (Refused why token)) = outcome ≡ failed why token
Passes outcome (Err NoMemory) = Unit {0}
