-- The library of what files describe.
use Rattle.std.specs.Prelude.{ℕ, suc, Bool, true, false, List, [], ◌∷◌, map, take}
use Rattle.type_core.specs.declared.library.Library.{Library}
use Rattle.type_core.specs.declared.library.Tycon.{Tycon}
use Rattle.type_core.specs.declared.library.Unit.{Unit as LibraryUnit}
use Rattle.type_core.specs.declared.member.Member.{Member}
use Rattle.type_core.specs.declared.names.TypeName.{TypeName}
use Rattle.type_core.specs.InitialNames.{initial_names}
use Rattle.type_core.specs.Lists.{concatenated}
use Rattle.elab_rules.specs.declared.entry.UnitEntry.{UnitEntry}
use Rattle.elab_rules.specs.declared.entry.Entry.{Entry}
use Rattle.elab_rules.specs.declared.entry.Entry.TheOpen.{Entry-F, Tycon as tycon, Value, Structure}
use Rattle.elab_rules.specs.declared.entry.Entry.TheFolds.{fold-Entry}
use Rattle.elab_rules.specs.Copies.{with_numbers}
use Rattle.elab_rules.specs.Replacing.{environment_with}
use Rattle.elab_rules.specs.States.{State, within, tycon_of, member_of}

-- the top identifiers so far with what they have, and the state
pub record Basis : Type 0 where
  pub units : List UnitEntry
  pub state : State

-- nothing is declared, and the names are the initial ones
abbrev pub empty_basis : Basis
empty_basis = record { units = []; state = record { names = initial_names; gone = map (λ name. false) initial_names; weight = 0 } }

abbrev pub tycons_step : Entry-F (List ℕ → List Tycon) → List ℕ → List Tycon
tycons_step (tycon entry) path = tycon_of path entry ∷ []
tycons_step (Value entry) path = []
tycons_step (Structure id entries) path = concatenated (map (λ entry. entry (within path id)) entries)

-- the type constructors of an entry of a body of this path
abbrev pub entry_tycons : Entry → List ℕ → List Tycon
entry_tycons = fold-Entry (List ℕ → List Tycon) tycons_step

abbrev pub members_step : Entry-F (List ℕ → List Member) → List ℕ → List Member
members_step (tycon entry) path = []
members_step (Value entry) path = member_of path entry ∷ []
members_step (Structure id entries) path = concatenated (map (λ entry. entry (within path id)) entries)

-- the members of an entry of a body of this path
abbrev pub entry_members : Entry → List ℕ → List Member
entry_members = fold-Entry (List ℕ → List Member) members_step

-- what a unit is to a library
abbrev pub unit_of : UnitEntry → LibraryUnit
unit_of unit = record { kind = unit.kind; id = unit.id }

-- the type constructors of a unit, in the order of its entries, those of a structure at its place
abbrev pub unit_tycons : UnitEntry → List Tycon
unit_tycons unit = concatenated (map (λ entry. entry_tycons entry unit.id) unit.entries)

-- the members of a unit, in the same order
abbrev pub unit_members : UnitEntry → List Member
unit_members unit = concatenated (map (λ entry. entry_members entry unit.id) unit.entries)

-- the names that are neither realized nor joined away
abbrev pub kept_names : List TypeName → List Bool → List TypeName
kept_names [] flags = []
kept_names (name ∷ names) [] = name ∷ kept_names names []
kept_names (name ∷ names) (true ∷ flags) = kept_names names flags
kept_names (name ∷ names) (false ∷ flags) = name ∷ kept_names names flags

-- how many are not set
abbrev pub count_kept : List Bool → ℕ
count_kept [] = 0
count_kept (true ∷ flags) = count_kept flags
count_kept (false ∷ flags) = suc (count_kept flags)

-- the number of a name where those that are gone are left out
abbrev pub number_kept : List Bool → ℕ → ℕ
number_kept flags n = count_kept (take n flags)

-- a unit whose types have their names numbered without gaps
abbrev pub unit_renumbered : List Bool → UnitEntry → UnitEntry
unit_renumbered flags unit = record {
  kind = unit.kind;
  id = unit.id;
  entries = environment_with (with_numbers (number_kept flags)) unit.entries;
  first_name = unit.first_name;
  name_count = unit.name_count;
}

-- the units with their names numbered without gaps
abbrev pub units_renumbered : Basis → List UnitEntry
units_renumbered basis = map (unit_renumbered basis.state.gone) basis.units

-- the library: the units, the names that are left, and the type constructors and members of the units in order
abbrev pub library : Basis → Library
library basis = record {
  units = map unit_of basis.units;
  names = kept_names basis.state.names basis.state.gone;
  tycons = concatenated (map unit_tycons (units_renumbered basis));
  members = concatenated (map unit_members (units_renumbered basis));
}
