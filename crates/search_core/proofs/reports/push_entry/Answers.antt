use Rattle.search_core.proofs.Reported.{entry_pushed, name_pushed}
use Rattle.search_core.proofs.reports.push_entry.Goals as goal

pub returns-then-names_only : goal.returns-then-names_only
returns-then-names_only c = record {
  pushed = name_pushed c.args.lib.now c.args.names_only c.args.hit.now _ c.index-members-hit.result c.args.out.now _
      c.if-names_only.true c.as_slice-members.ensures.value c.requires.member c.index-members-hit.is
      c.in_ok-push_line.ensures.pushed;
  printed = c.requires.printed;
}

pub returns-else-names_only : goal.returns-else-names_only
returns-else-names_only c = record {
  pushed =
      entry_pushed c.args.lib.now c.args.names_only c.args.hit.now _ c.index-members-hit.result c.args.out.now _ _
      c.push.result c.if-names_only.false c.as_slice-members.ensures.value c.requires.member
      c.index-members-hit.is c.in_ok-push_line.ensures.pushed c.push.ensures.pushed;
  printed = c.push.ensures.printed;
}
