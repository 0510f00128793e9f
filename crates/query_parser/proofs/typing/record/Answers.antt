use Rattle.std.proofs.Common.{◌<◌, arith}
use Rattle.type_core.specs.Size.{size_of}
use Rattle.elab_types.specs.Records.{in_label_order, record_of}
use Rattle.query_parser.proofs.Levels.{too_large}
use Rattle.query_parser.proofs.typing.record.Goals as goal

pub returns-then-len-ge-MAX_NODES : goal.returns-then-len-ge-MAX_NODES
returns-then-len-ge-MAX_NODES c = record {
  outcome = too_large (record_of (in_label_order c.args.fields))
      (let more : 200 < size_of (record_of (in_label_order c.args.fields)) = omega (arith, c.records_have_nodes.ensures.law c.args.fields, c.if-len-ge-MAX_NODES.true, c.len.ensures.value) in more);
}
