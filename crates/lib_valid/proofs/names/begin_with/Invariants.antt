use Rattle.std.proofs.Common.{◌≡◌, take}
use Rattle.lib_valid.proofs.names.begin_with.Given as goal

abbrev pub invariant-loop-i : goal.invariant-loop-i
invariant-loop-i l = take l.i l.names ≡ take l.i l.first
