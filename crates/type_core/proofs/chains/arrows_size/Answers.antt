use Rattle.std.proofs.Common.{sym, ◌∙◌}
use Rattle.type_core.proofs.ArrowChains.{chain_size, no_sides}
use Rattle.type_core.proofs.chains.arrows_size.Goals as goal

pub returns-then-is_empty : goal.returns-then-is_empty
returns-then-is_empty c = record { value = no_sides c.args.sides.now (sym c.is_empty.ensures ∙ c.if-is_empty.true) }

pub returns : goal.returns
returns c = record { value = chain_size c.args.sides.now _ _ _ (sym c.is_empty.ensures ∙ c.if-is_empty.false) c.total_size.ensures.value c.saturating_sub-between.ensures c.saturating_add.ensures }
