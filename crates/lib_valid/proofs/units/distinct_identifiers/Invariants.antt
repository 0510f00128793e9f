use Rattle.std.proofs.Common.{Some, take}
use Rattle.lib_valid.specs.Parts.{AreAll, identifiers_of}
use Rattle.lib_valid.proofs.units.distinct_identifiers.Given as goal

abbrev pub invariant-loop-unit : goal.invariant-loop-unit
invariant-loop-unit l = AreAll (identifiers_of (take l.unit-index l.units)) (Some l.identifiers)
