use Rattle.std.proofs.Common.{◌∙◌, sym, subst, ap}
use Rattle.elab_env.specs.Realizations.{resolved}
use Rattle.elab_rules.specs.Distinct.{AreDistinct}
use Rattle.elab_rules.specs.Indexes.{IsIndex}
use Rattle.elab_rules.specs.Replacing.{environment_with}
use Rattle.elab_rules.specs.Standing.{IsSettled}
use Rattle.elab_phrases.proofs.EntriesByNow.{by_now_settled}
use Rattle.elab_rules.proofs.IndexWith.{distinct_with, index_with}
use Rattle.sig_elab.proofs.declarations.unit_of.Goals as goal

pub returns-clause-detail : goal.returns-clause-detail
returns-clause-detail c =
    let body = c.args.body in
    let by_now = resolved c.args.progress.now.table.realizations in
    let is = ap (environment_with by_now) (sym c.as_slice.ensures.value) ∙ sym c.in_ok-entries_by_now.ensures.value ∙ sym c.from_vec.ensures.value in
    record {
      indexed = subst (IsIndex body.index) is (index_with by_now body.index body.entries.items body.indexed);
      distinct = subst AreDistinct is (distinct_with by_now body.entries.items body.distinct);
    }

pub returns-clause-settled : goal.returns-clause-settled
returns-clause-settled c =
    let table = c.args.progress.now.table in
    subst (IsSettled table) (ap (environment_with (resolved table.realizations)) (sym c.as_slice.ensures.value) ∙ sym c.in_ok-entries_by_now.ensures.value ∙ sym c.from_vec.ensures.value)
    (by_now_settled table c.args.body.entries.items c.is_sound.ensures.sound c.requires.over)
