use Rattle.std.proofs.Common.{◌≡◌, take}
use Rattle.iso_normal.proofs.copying.+copy_factors.Given as goal

abbrev pub invariant-copy_factors-loop-one : goal.invariant-copy_factors-loop-one
invariant-copy_factors-loop-one l = l.done ≡ take l.one-index l.all
