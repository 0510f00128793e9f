use Rattle.type_core.proofs.LabelValues.{one_label}
use Rattle.type_core.proofs.labels.are_record_labels.Goals as goal

pub returns-in-len1 : goal.returns-in-len1
returns-in-len1 c = record { value = one_label c.args.fields.now c.in-len1.len_at_least c.in-len1.len_below }
