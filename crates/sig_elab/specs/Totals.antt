-- What the units so far come to.
use Rattle.std.specs.Prelude.{◌≡◌, ◌+◌, ℕ, length, map, min}
use Rattle.type_core.specs.declared.library.Library.{Library}
use Rattle.type_core.specs.Lists.{sum_of}
use Rattle.type_core.specs.Weight.{member_weight, tycon_weight, unit_weight}
use Rattle.sig_elab.specs.declared.totals.Totals.{Totals}
use Rattle.elab_rules.specs.Files.{normal_sum}
use Rattle.elab_rules.specs.Library.{Basis, library}

-- the weight of a library without its names
abbrev pub described_weight : Library → ℕ
described_weight l = sum_of (map unit_weight l.units) + (sum_of (map tycon_weight l.tycons) + sum_of (map member_weight l.members))

-- how many members the library has, how many nodes their normal forms have, and what it weighs without its names; each
-- is 2^64 - 1 where that is less
pub record AreTotals (totals : Totals) (basis : Basis) : Type 0 where
  pub members : totals.members ≡ min (length (library basis).members) 0xffff_ffff_ffff_ffff
  pub normal : totals.normal ≡ min (normal_sum basis) 0xffff_ffff_ffff_ffff
  pub weight : totals.weight ≡ min (described_weight (library basis)) 0xffff_ffff_ffff_ffff
