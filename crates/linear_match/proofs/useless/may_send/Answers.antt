use Rattle.std.proofs.Common.{◌++◌, ◌∷◌, [], get_or, refl, subst}
use Rattle.linear_match.specs.search.Cutting.{IsTakenByNone}
use Rattle.linear_match.proofs.Lettered.{none_taken}
use Rattle.linear_match.proofs.useless.may_send.Goals as goal

pub returns : goal.returns
returns c = record {
  none = λ e names ms tasks.
      let f = get_or c.args.sorting.now.arguments.now c.args.at c.index-sorting-at.result in
      none_taken c.args.sorting.now c.args.sorting.now c.args.at tasks f c.index-sorting-at.result c.requires.more refl
      refl refl refl refl
      (subst (λ held. IsTakenByNone c.args.sorting.now.from.now (held ++ f ∷ [])) c.as_slice.ensures.value
      (c.may_take.ensures.none e)) ms;
}
