use Rattle.std.proofs.Common.{◌-◌, ◌∙◌, drop, arith, length-drop}
use Rattle.type_core.proofs.LabelValues.{few_in_order}
use Rattle.type_core.proofs.labels.are_in_order.Goals as goal

pub returns : goal.returns
returns c = record { value = few_in_order (drop (c.loop-i.i - 1) c.args.fields.now) (omega (arith, length-drop (c.loop-i.i - 1) c.args.fields.now)) ∙ c.loop-i.invariant.order }
