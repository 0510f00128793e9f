use Rattle.type_core.proofs.LabelOrder.{equal_labels, label_order_total}
use Rattle.type_core.proofs.laws.labels_are_totally_ordered.Goals as goal

pub returns : goal.returns
returns c = record { total = label_order_total; strict = equal_labels }
