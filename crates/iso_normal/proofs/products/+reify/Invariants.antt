use Rattle.std.proofs.Common.{◌≡◌, map, take}
use Rattle.iso_normal.specs.Factors.{type_of_factor}
use Rattle.iso_normal.proofs.products.+reify.Given as goal

abbrev pub invariant-types_of-loop-f : goal.invariant-types_of-loop-f
invariant-types_of-loop-f l = l.done ≡ map type_of_factor (take l.f-index l.fs)
