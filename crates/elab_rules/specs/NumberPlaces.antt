-- Places by numbers.
use Rattle.std.specs.Prelude.{ℕ, ◌==◌, Option}
use Rattle.std.specs.HashMap.{get_by}
use Rattle.elab_rules.specs.declared.number_places.NumberPlaces.{NumberPlaces}

-- the place of a number, if it has one
abbrev pub number_place : NumberPlaces → ℕ → Option ℕ
number_place places n = get_by (λ key. n == key) places.places
