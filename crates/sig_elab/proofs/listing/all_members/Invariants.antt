use Rattle.std.proofs.Common.{◌≡◌, ◌++◌, map, drop}
use Rattle.type_core.specs.Lists.{concatenated}
use Rattle.elab_rules.specs.Library.{unit_members}
use Rattle.sig_elab.proofs.listing.all_members.Given as goal

abbrev pub invariant-loop-unit : goal.invariant-loop-unit
invariant-loop-unit l = l.members ++ concatenated (map unit_members (drop l.unit-index l.units)) ≡ concatenated (map unit_members l.units)
