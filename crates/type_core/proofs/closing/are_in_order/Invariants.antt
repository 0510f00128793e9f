use Rattle.std.proofs.Common.{◌≡◌, take}
use Rattle.std.specs.List.{range_with_len}
use Rattle.type_core.specs.Schemes.{numbers}
use Rattle.type_core.proofs.closing.are_in_order.Given as goal

abbrev pub invariant-loop-i : goal.invariant-loop-i
invariant-loop-i l = numbers (take l.i l.met) ≡ range_with_len 0 l.i
