use Rattle.std.proofs.Common.{◌≡◌, ◌++◌, map, drop}
use Rattle.type_core.specs.Lists.{concatenated}
use Rattle.iso_normal.specs.Factors.{factors}
use Rattle.iso_normal.proofs.linear_factors.+add.Given as goal

abbrev pub invariant-add_all-loop-part : goal.invariant-add_all-loop-part
invariant-add_all-loop-part l = l.done ++ concatenated (map factors (drop l.part-index l.parts)) ≡ l.fn.done ++ concatenated (map factors l.parts)
