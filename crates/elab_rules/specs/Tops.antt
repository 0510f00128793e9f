-- Top identifiers that were found.
use Rattle.std.specs.Prelude.{◌≡◌, ◌⊎◌, ℕ, Some, slice_get}
use Rattle.elab_rules.specs.declared.detail.Top.{Top}
use Rattle.elab_rules.specs.declared.tops.Tops.{Tops}
use Rattle.elab_rules.specs.declared.units.Units.{Units}

-- the unit is one of these, and the detail is what is kept beside it
pub record IsTop (units : Units) (top : Top) : Type 0 where
  pub place : ℕ
  pub unit : slice_get units.entries.items place ≡ Some top.unit.now
  pub detail : slice_get units.details.items place ≡ Some top.detail.now

-- the unit is one of those that a declaration may see, and the detail is what is kept beside it
abbrev pub IsTopOf : Tops → Top → Type 0
IsTopOf tops top = IsTop tops.before.now top ⊎ IsTop tops.added.now top
