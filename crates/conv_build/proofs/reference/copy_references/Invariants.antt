use Rattle.std.proofs.Common.{◌≡◌, take}
use Rattle.conv_build.proofs.reference.copy_references.Given as goal

abbrev pub invariant-loop-reference : goal.invariant-loop-reference
invariant-loop-reference l = l.done ≡ take l.reference-index l.all
