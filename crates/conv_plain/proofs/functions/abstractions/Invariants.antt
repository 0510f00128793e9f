use Rattle.std.proofs.Common.{◌≡◌, ◌≤◌, length, take}
use Rattle.conv_plain.specs.Functions.{abstractions}
use Rattle.conv_plain.proofs.functions.abstractions.Given as goal

abbrev pub invariant-down : goal.invariant-down
invariant-down l = (l.i ≤ length l.types) × (abstractions (take l.i l.types) l.all ≡ abstractions l.types l.fn.body)

abbrev pub decreases-down : goal.decreases-down
decreases-down l = l.i
