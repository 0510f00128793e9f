use Rattle.std.proofs.Common.{◌≡◌, ◌++◌, map, drop}
use Rattle.lib_index.specs.IndexText.{list_text, member_text}
use Rattle.type_core.specs.Lists.{concatenated}
use Rattle.lib_index.proofs.encoding.push_members.Given as goal

abbrev pub invariant-loop-member : goal.invariant-loop-member
invariant-loop-member l = l.out ++ concatenated (map member_text (drop l.member-index l.members)) ≡ l.fn.out
    ++ list_text member_text l.members
