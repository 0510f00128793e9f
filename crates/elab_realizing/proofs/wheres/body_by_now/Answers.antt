use Rattle.std.proofs.Common.{sym, ap, ◌∙◌, subst}
use Rattle.type_core.specs.declared.ty.Ty.{Ty}
use Rattle.elab_env.specs.Realizations.{resolved}
use Rattle.elab_rules.specs.Distinct.{AreDistinct}
use Rattle.elab_rules.specs.Indexes.{IsIndex}
use Rattle.elab_rules.specs.Replacing.{environment_with}
use Rattle.elab_rules.proofs.IndexWith.{distinct_with, index_with}
use Rattle.elab_realizing.proofs.wheres.body_by_now.Goals as goal

pub invariant_of-result : goal.invariant_of-result
invariant_of-result c =
    let now : Ty → Ty = resolved c.args.table.now.realizations in
    let same = c.in_ok-entries.ensures.value ∙ ap (environment_with now) c.as_slice.ensures.value in
    record {
      indexed = subst (IsIndex c.args.body.index) (sym same) (index_with now c.args.body.index c.args.body.entries.items c.args.body.indexed);
      distinct = subst AreDistinct (sym same) (distinct_with now c.args.body.entries.items c.args.body.distinct);
    }
