use Rattle.std.proofs.Common.{◌≡◌, ◌-◌, ◌++◌}
use Rattle.conv_build.specs.direct.References.{references, references_from}
use Rattle.conv_build.proofs.reference.push_references.Given as goal

abbrev pub invariant-loop-place : goal.invariant-loop-place
invariant-loop-place l = l.all ++ references_from l.level l.of l.place (l.count - l.place) ≡ l.fn.all ++ references l.level l.of
