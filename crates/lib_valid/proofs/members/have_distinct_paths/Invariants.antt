use Rattle.std.proofs.Common.{Some, map, take}
use Rattle.type_core.specs.declared.member.Member.{Member}
use Rattle.lib_valid.specs.Parts.{AreAll}
use Rattle.lib_valid.proofs.members.have_distinct_paths.Given as goal

abbrev pub invariant-loop-member : goal.invariant-loop-member
invariant-loop-member l = AreAll (map (λ (member : Member). member.path) (take l.member-index l.members)) (Some l.paths)
