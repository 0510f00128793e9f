use Rattle.std.proofs.Common.{◌≡◌, ◌++◌, drop}
use Rattle.conv_plain.specs.CoordinateTypes.{types_of}
use Rattle.conv_plain.proofs.types.+types.Given as goal

abbrev pub invariant-types_of-loop-one : goal.invariant-types_of-loop-one
invariant-types_of-loop-one l = l.done ++ types_of (drop l.one-index l.all) ≡ types_of l.all
