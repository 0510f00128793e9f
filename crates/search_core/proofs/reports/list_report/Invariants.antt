use Rattle.std.proofs.Common.{◌≡◌, take}
use Rattle.std.specs.List.{flat_map}
use Rattle.search_core.specs.Report.{member_line}
use Rattle.search_core.proofs.reports.list_report.Given as goal

abbrev pub invariant-loop-member : goal.invariant-loop-member
invariant-loop-member l = l.text ≡ flat_map (member_line l.lib.names) (take l.member-index l.lib.members)
