-- What is kept beside units.
use Rattle.std.specs.Prelude.{◌≡◌, ◌+◌, ◌≤◌, ℕ, List, Some, length, slice_get}
use Rattle.elab_rules.specs.declared.detail.Detail.{Detail}
use Rattle.elab_rules.specs.declared.entry.UnitEntry.{UnitEntry}
use Rattle.elab_rules.specs.Copies.{own_names}
use Rattle.elab_rules.specs.Distinct.{AreDistinct}
use Rattle.elab_rules.specs.Indexes.{IsIndex}
use Rattle.elab_rules.specs.States.{State}

-- the identifiers of the unit are distinct, and their places are kept
pub record IsDetail (detail : Detail) (unit : UnitEntry) : Type 0 where
  pub indexed : IsIndex detail.index unit.entries
  pub distinct : AreDistinct unit.entries

-- one of them is kept beside each unit
pub record AreDetails (details : List Detail) (units : List UnitEntry) : Type 0 where
  pub count : length details ≡ length units
  pub each : (n : ℕ) (detail : Detail) (unit : UnitEntry) → slice_get details n ≡ Some detail → slice_get units n ≡ Some unit → IsDetail detail unit

-- the unit's own names are those that are kept, and all names that were made for it are there
pub record HasOwn (s : State) (detail : Detail) (unit : UnitEntry) : Type 0 where
  pub numbers : detail.own.numbers.items ≡ own_names unit s
  pub made : unit.first_name + unit.name_count ≤ length s.names

-- the same for each unit
abbrev pub HaveOwn : State → List Detail → List UnitEntry → Type 0
HaveOwn s details units = (n : ℕ) (detail : Detail) (unit : UnitEntry) → slice_get details n ≡ Some detail → slice_get units n ≡ Some unit → HasOwn s detail unit
