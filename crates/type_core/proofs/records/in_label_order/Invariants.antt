use Rattle.std.proofs.Common.{◌≡◌, length}
use Rattle.type_core.specs.Records.{all_inserted, in_label_order}
use Rattle.type_core.proofs.records.in_label_order.Given as goal

abbrev pub invariant-fields : goal.invariant-fields
invariant-fields l = all_inserted l.fields l.sorted.items ≡ in_label_order l.fn.fields

abbrev pub decreases-fields : goal.decreases-fields
decreases-fields l = length l.fields
