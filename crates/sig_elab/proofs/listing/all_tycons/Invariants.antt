use Rattle.std.proofs.Common.{◌≡◌, ◌++◌, map, drop}
use Rattle.type_core.specs.Lists.{concatenated}
use Rattle.elab_rules.specs.Library.{unit_tycons}
use Rattle.sig_elab.proofs.listing.all_tycons.Given as goal

abbrev pub invariant-loop-unit : goal.invariant-loop-unit
invariant-loop-unit l = l.tycons ++ concatenated (map unit_tycons (drop l.unit-index l.units)) ≡ concatenated (map unit_tycons l.units)
