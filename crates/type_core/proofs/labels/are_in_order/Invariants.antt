use Rattle.std.proofs.Common.{◌≡◌, ◌-◌, ◌≤◌, map, drop}
use Rattle.type_core.specs.declared.ty.Field.{Field}
use Rattle.type_core.specs.Labels.{are_in_order}
use Rattle.type_core.proofs.labels.are_in_order.Given as goal

abbrev pub invariant-loop-i : goal.invariant-loop-i
invariant-loop-i l = record {
  after : 1 ≤ l.i;
  order : are_in_order (map (λ (field : Field). field.label) (drop (l.i - 1) l.fields)) ≡ are_in_order (map (λ (field : Field). field.label) l.fields);
}
