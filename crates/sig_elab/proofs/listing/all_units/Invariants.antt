use Rattle.std.proofs.Common.{◌≡◌, map, take}
use Rattle.elab_rules.specs.Library.{unit_of}
use Rattle.sig_elab.proofs.listing.all_units.Given as goal

abbrev pub invariant-loop-unit : goal.invariant-loop-unit
invariant-loop-unit l = l.all ≡ map unit_of (take l.unit-index l.units)
