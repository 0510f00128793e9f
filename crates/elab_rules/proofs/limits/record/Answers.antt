use Rattle.std.proofs.Common.{◌≤◌, length, arith}
use Rattle.elab_rules.proofs.ManyFields.{too_many}
use Rattle.elab_rules.proofs.limits.record.Goals as goal

pub returns-then-len-ge-MAX_NODES : goal.returns-then-len-ge-MAX_NODES
returns-then-len-ge-MAX_NODES c = record {
  outcome = λ s. too_many c.args.first c.args.fields s (c.records_have_nodes.ensures.law c.args.fields) (let many : 2000 ≤ length c.args.fields = omega (arith, c.if-len-ge-MAX_NODES.true, c.len.ensures.value) in many);
}
