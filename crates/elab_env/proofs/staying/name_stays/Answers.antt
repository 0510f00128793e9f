use Rattle.std.proofs.Common.{sym, ap, ◌∙◌, not, is_some}
use Rattle.elab_env.proofs.Placed.{is_realized-place}
use Rattle.elab_env.proofs.staying.name_stays.Goals as goal

pub returns : goal.returns
returns c = record {
  value = λ stays. is_realized-place c.args.table.now.realizations 0 c.args.name.0 ∙ ap is_some (sym c.place_after.ensures.place) ∙ c.is_none.ensures ∙ ap not stays;
}
