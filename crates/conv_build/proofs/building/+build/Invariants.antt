use Rattle.std.proofs.Common.{◌≡◌, ◌++◌, drop}
use Rattle.conv_build.specs.direct.TwoPasses.{built_all, rest_all}
use Rattle.conv_build.proofs.building.+build.Given as goal

abbrev pub invariant-built_all-loop-part : goal.invariant-built_all-loop-part
invariant-built_all-loop-part l =
    (l.done ++ built_all (drop l.part-index l.parts) l.terms.items ≡ built_all l.parts l.fn.terms.items)
    × (rest_all (drop l.part-index l.parts) l.terms.items ≡ rest_all l.parts l.fn.terms.items)
