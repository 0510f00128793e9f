use Rattle.std.proofs.Common.{◌+◌, ◌-◌, ◌^◌, length, subst, arith}
use Rattle.lib_index.specs.Reading.{Spends, rest_of}
use Rattle.lib_index.proofs.Spending.{spent_saturated}
use Rattle.type_core.specs.Weight.{type_weight}
use Rattle.lib_index.proofs.library_reading.item_spent.Goals as goal

pub returns : goal.returns
returns c =
    let weight = 1 + (length c.args.path.now + type_weight c.args.body.now) in
    record {
      spent = subst (λ read. Spends read c.spent.result)
          (spent_saturated weight (2 ^ 64 - 1) c.saturating_add-cost.result (rest_of c.args.rest)
          (omega (arith, c.ranges.rest)) (omega (
            arith,
            c.saturating_add-cost.ensures,
            c.path_weight.ensures.value,
            c.type_weight.ensures.value,
          )))
          c.spent.ensures.spent;
    }
