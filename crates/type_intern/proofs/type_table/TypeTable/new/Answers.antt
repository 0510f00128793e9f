use Rattle.std.proofs.Common.{ap, ◌∙◌}
use Rattle.std.specs.Map.{keys_of}
use Rattle.type_intern.specs.Tops.{tree_of}
use Rattle.type_intern.specs.TypeTables.{types_of}
use Rattle.type_intern.specs.declared.node.Node.{Node}
use Rattle.std.proofs.Common.{List, ℕ}
use Rattle.type_intern.proofs.Placing.{empty_values}
use Rattle.type_intern.proofs.Erasing.{empty_erasing}
use Rattle.type_intern.proofs.type_table.TypeTable.new.Goals as goal

pub invariant_of-result : goal.invariant_of-result
invariant_of-result c = empty_erasing c.new.result.entries c.new.ensures.empty

pub returns : goal.returns
returns c = record {
  empty = ap (λ (es : List (Node × ℕ)). types_of (keys_of es)) c.new.ensures.empty ∙ empty_values tree_of;
}
