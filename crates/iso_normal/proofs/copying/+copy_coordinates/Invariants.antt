use Rattle.std.proofs.Common.{◌≡◌, take}
use Rattle.iso_normal.proofs.copying.+copy_coordinates.Given as goal

abbrev pub invariant-loop-one : goal.invariant-loop-one
invariant-loop-one l = l.done ≡ take l.one-index l.all
