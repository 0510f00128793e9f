use Rattle.std.proofs.Common.{◌≡◌, take}
use Rattle.type_core.proofs.equality.+same.Given as goal

abbrev pub invariant-same_all-loop-i : goal.invariant-same_all-loop-i
invariant-same_all-loop-i l = take l.i l.parts ≡ take l.i l.others

abbrev pub invariant-same_fields-loop-i : goal.invariant-same_fields-loop-i
invariant-same_fields-loop-i l = take l.i l.fields ≡ take l.i l.others
