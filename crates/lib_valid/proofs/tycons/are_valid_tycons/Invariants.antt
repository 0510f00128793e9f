use Rattle.std.proofs.Common.{take}
use Rattle.std.specs.List.{All}
use Rattle.lib_valid.specs.Parts.{IsValidTycon}
use Rattle.lib_valid.proofs.tycons.are_valid_tycons.Given as goal

abbrev pub invariant-loop-tycon : goal.invariant-loop-tycon
invariant-loop-tycon l = All (IsValidTycon l.units l.lib) (take l.tycon-index l.tycons)
