use Rattle.std.proofs.Common.{sym, subst}
use Rattle.elab_rules.specs.Distinct.{AreDistinct}
use Rattle.elab_rules.specs.Indexes.{IsIndex}
use Rattle.elab_rules.proofs.DistinctMore.{distinct_nothing}
use Rattle.elab_rules.proofs.body.Body.new.Goals as goal

pub invariant_of-result : goal.invariant_of-result
invariant_of-result c = record {
  indexed = subst (IsIndex c.new-2.result) (sym c.new.ensures.items) c.new-2.ensures.empty;
  distinct = subst AreDistinct (sym c.new.ensures.items) distinct_nothing;
}
