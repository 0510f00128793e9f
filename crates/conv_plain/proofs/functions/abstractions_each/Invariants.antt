use Rattle.std.proofs.Common.{◌≡◌, ◌++◌, map, drop}
use Rattle.conv_plain.specs.Functions.{abstractions}
use Rattle.conv_plain.proofs.functions.abstractions_each.Given as goal

abbrev pub invariant-loop-body : goal.invariant-loop-body
invariant-loop-body l = l.done ++ map (abstractions l.types) (drop l.body-index l.bodies) ≡ map (abstractions l.types) l.bodies
