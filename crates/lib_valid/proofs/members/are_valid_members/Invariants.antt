use Rattle.std.proofs.Common.{take}
use Rattle.std.specs.List.{All}
use Rattle.lib_valid.specs.Parts.{IsValidMember}
use Rattle.lib_valid.proofs.members.are_valid_members.Given as goal

abbrev pub invariant-loop-member : goal.invariant-loop-member
invariant-loop-member l = All (IsValidMember l.units l.lib) (take l.member-index l.members)
