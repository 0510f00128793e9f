-- Places of units.
use Rattle.std.specs.Prelude.{◌≡◌, ℕ, List, Some, bytes_eq}
use Rattle.elab_types.specs.declared.places.Places.{Places}
use Rattle.elab_types.specs.Finding.{place_of}
use Rattle.elab_types.specs.Places.{place_at}
use Rattle.elab_rules.specs.declared.entry.UnitEntry.{UnitEntry}

-- each identifier that a unit has, has the place of the first such unit; other texts may have places that mean nothing
abbrev pub ArePlaced : Places → List UnitEntry → Type 0
ArePlaced places units = (id : List ℕ) (place : ℕ) → place_of (λ unit. bytes_eq id unit.id) units ≡ Some place → place_at places id ≡ Some place
