use Rattle.std.proofs.Common.{◌≡◌, take}
use Rattle.type_core.proofs.kept.first_fields.Given as goal

abbrev pub invariant-loop-field : goal.invariant-loop-field
invariant-loop-field l = l.done ≡ take l.field-index (take l.count l.fields)
