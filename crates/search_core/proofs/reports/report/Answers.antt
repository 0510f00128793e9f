use Rattle.search_core.proofs.Reported.{entry_more, is_member}
use Rattle.search_core.proofs.reports.report.Goals as goal

pub push_entry-requires : goal.push_entry-requires
push_entry-requires c = record {
  member = is_member c.args.lib.now c.args.names_only c.args.answer.now.hits c.as_slice-hit-items.result.now c.loop-hit.hit-index
      c.hit-item.result c.as_slice-hit-items.ensures.value c.loop-hit-test.true c.hit-item.is c.requires.members;
  printed = c.loop-hit.invariant.1;
}

pub loop-hit-preserved : goal.loop-hit-preserved
loop-hit-preserved c = (
  entry_more c.args.lib.now c.args.names_only c.args.answer.now.hits c.as_slice-hit-items.result.now
      c.loop-hit.hit-index c.hit-item.result c.as_slice-hit-items.ensures.value c.loop-hit-test.true c.hit-item.is
      c.loop-hit.text c.push_entry.new.out c.loop-hit.invariant.0 c.in_ok-push_entry.ensures.pushed,
  c.in_ok-push_entry.ensures.printed,
)
