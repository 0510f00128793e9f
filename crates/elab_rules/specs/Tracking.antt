-- What is kept of the names from elsewhere.
use Rattle.std.specs.Prelude.{◌≡◌, ℕ, List, is_some, map, min, not}
use Rattle.type_core.specs.Lists.{sum_of}
use Rattle.type_core.specs.Weight.{name_weight}
use Rattle.elab_rules.specs.declared.progress.Progress.{Progress}
use Rattle.elab_rules.specs.Files.{is_from}
use Rattle.elab_types.specs.Finding.{none_of}
use Rattle.elab_types.specs.Places.{place_at}

-- the first parts of the paths of all external names have places, and no other texts; and what these names weigh is
-- known, or 2^64 - 1 where that is less
pub record IsTracked (progress : Progress) : Type 0 where
  pub first_parts : (id : List ℕ) → is_some (place_at progress.firsts id) ≡ not (none_of (is_from id) progress.table.names)
  pub weighed : progress.external_weight ≡ min (sum_of (map name_weight progress.table.names)) 0xffff_ffff_ffff_ffff
