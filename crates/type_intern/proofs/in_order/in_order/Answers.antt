use Rattle.std.proofs.Common.{◌∙◌, ap}
use Rattle.type_intern.specs.Tops.{numbers_of}
use Rattle.type_intern.specs.declared.node.CoordId.{CoordId}
use Rattle.type_intern.proofs.Sorting.{sorted_by_number}
use Rattle.type_intern.proofs.in_order.in_order.Goals as goal

pub returns : goal.returns
returns c = record {
  value = ap numbers_of c.from_vec.ensures.value ∙ sorted_by_number (λ (id : CoordId). id.0)
      c.args.ids.items c.sort_unstable.new.self.items c.sort_unstable.ensures.permutation c.sort_unstable.ensures.sorted;
}
