use Rattle.std.proofs.Common.{◌≡◌, ◌++◌, take, drop}
use Rattle.type_core.specs.declared.ty.Field.{Field}
use Rattle.type_core.specs.Records.{inserted}
use Rattle.type_core.proofs.records.place_for.Given as goal

abbrev pub invariant-loop-i : goal.invariant-loop-i
invariant-loop-i l = (field : Field) → field.label ≡ l.label → inserted field l.sorted ≡ take l.i l.sorted ++ inserted field (drop l.i l.sorted)
