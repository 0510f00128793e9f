use Rattle.std.proofs.Common.{sym, ap, ap₂, ◌∙◌, ◌&&◌, not, is_some}
use Rattle.elab_env.proofs.Placed.{is_realized-place, none_there}
use Rattle.elab_env.proofs.name_table.NameTable.is_free.Goals as goal

pub returns-then-is_described : goal.returns-then-is_described
returns-then-is_described c = record {
  value =
      none_there c.place_after.result c.is_none.result c.is_none.ensures
      ∙ ap (λ o. not (is_some o)) c.place_after.ensures.place
      ∙ sym (ap₂ (λ a b. a && not b) (sym c.is_described.ensures.value ∙ c.if-is_described.true) (is_realized-place c.args.self.now.realizations 0 c.args.n.0));
}
