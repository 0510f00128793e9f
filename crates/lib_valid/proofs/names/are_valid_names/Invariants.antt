use Rattle.std.proofs.Common.{take}
use Rattle.std.specs.List.{All}
use Rattle.lib_valid.specs.Parts.{IsValidName}
use Rattle.lib_valid.proofs.names.are_valid_names.Given as goal

abbrev pub invariant-loop-name : goal.invariant-loop-name
invariant-loop-name l = All (IsValidName l.units l.tycons) (take l.name-index l.names)
