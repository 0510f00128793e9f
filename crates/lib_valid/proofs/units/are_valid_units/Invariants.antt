use Rattle.std.proofs.Common.{take}
use Rattle.std.specs.List.{All}
use Rattle.lib_valid.specs.Parts.{IsValidUnit}
use Rattle.lib_valid.proofs.units.are_valid_units.Given as goal

abbrev pub invariant-loop-unit : goal.invariant-loop-unit
invariant-loop-unit l = All IsValidUnit (take l.unit-index l.units)
