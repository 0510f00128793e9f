use Rattle.std.proofs.Common.{◌≡◌, ◌≤◌, length, take}
use Rattle.conv_plain.specs.Functions.{arrows}
use Rattle.conv_plain.proofs.functions.arrows.Given as goal

abbrev pub invariant-down : goal.invariant-down
invariant-down l = (l.i ≤ length l.types) × (arrows (take l.i l.types) l.all ≡ arrows l.types l.fn.b)

abbrev pub decreases-down : goal.decreases-down
decreases-down l = l.i
