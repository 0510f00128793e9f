-- Where the realizations of names stand.
use Rattle.std.specs.Prelude.{◌≡◌, ℕ, ◌+◌, ◌==◌, if◌then◌else◌, List, [], ◌∷◌, Option, Some, None, drop, length, nat_le, slice_get}
use Rattle.elab_env.specs.declared.realization.Realization.{Realization}
use Rattle.elab_env.specs.Sound.{IsSound}
use Rattle.elab_env.specs.Table.{Table}

-- the place of the name's first realization, where the first of the list has the place `at`
abbrev pub place_in : ℕ → ℕ → List Realization → Option ℕ
place_in at n [] = None
place_in at n (r ∷ rs) = if n == r.name.0 then Some at else place_in (at + 1) n rs

-- the place that is held for a name, if one is
abbrev pub place_held : Option (Option ℕ) → Option ℕ
place_held None = None
place_held (Some place) = place

-- the place, if it is `from` or later
abbrev pub from_on : ℕ → Option ℕ → Option ℕ
from_on from None = None
from_on from (Some place) = if nat_le from place then Some place else None

-- the place held for each name is that of its first realization, also among later ones alone: none has two
abbrev pub ArePlaced : List Realization → List (Option ℕ) → Type 0
ArePlaced rs places = (n from : ℕ) → from_on from (place_held (slice_get places n)) ≡ place_in from n (drop from rs)

-- the table is sound, and a place is held for each of its names
pub record IsKept (table : Table) (places : List (Option ℕ)) : Type 0 where
  pub sound : IsSound table
  pub placed : ArePlaced table.realizations places
  pub count : length places ≡ length table.names
