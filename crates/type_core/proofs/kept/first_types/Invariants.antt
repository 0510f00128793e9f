use Rattle.std.proofs.Common.{◌≡◌, take}
use Rattle.type_core.proofs.kept.first_types.Given as goal

abbrev pub invariant-loop-part : goal.invariant-loop-part
invariant-loop-part l = l.done ≡ take l.part-index (take l.count l.parts)
