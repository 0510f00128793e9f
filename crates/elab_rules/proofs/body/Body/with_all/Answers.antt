use Rattle.std.proofs.Common.{◌≡◌, ◌<◌, ◌≤◌, length, take, sym, ap, subst, ◌∙◌, arith}
use Rattle.std.proofs.lemmas.List.{take_at}
use Rattle.elab_rules.specs.Distinct.{AreDistinct}
use Rattle.elab_rules.specs.Indexes.{IsIndex}
use Rattle.elab_rules.proofs.DistinctMore.{distinct_appended}
use Rattle.elab_rules.proofs.IndexSteps.{indexed_further, indexed_whole}
use Rattle.elab_rules.proofs.body.Body.with_all.Goals as goal

pub loop-place-init : goal.loop-place-init
loop-place-init c =
    let own = c.args.self.entries in
    let end : length own.items ≡ c.len-count.result = omega (arith, c.len-count.ensures, own.ok.0) in
    subst (IsIndex c.args.self.index) (sym (ap (take c.len-count.result) c.in_ok-append.ensures.items ∙ take_at own.items c.args.more.entries.items c.len-count.result end)) c.args.self.indexed

pub loop-place-preserved : goal.loop-place-preserved
loop-place-preserved c =
    let all = c.append.new.self in
    let within : c.loop-place.place < length all.items = omega (arith, c.loop-place-test.true, c.len-place-end.ensures, all.ok.0) in
    indexed_further c.index_entry.new.index all.items c.loop-place.place c.index.result.now within c.index.ensures
    (c.in_ok-index_entry.ensures.added (take c.loop-place.place all.items) c.loop-place.invariant)

pub invariant_of-result : goal.invariant_of-result
invariant_of-result c =
    let all = c.append.new.self in
    let past : length all.items ≤ c.loop-place.place = omega (arith, c.loop-place-test.false, c.len-place-end.ensures, all.ok.0) in
    record {
      indexed = indexed_whole c.loop-place.index all.items c.loop-place.place past c.loop-place.invariant;
      distinct = subst AreDistinct (sym c.in_ok-append.ensures.items) (distinct_appended c.args.self.entries.items c.args.more.entries.items c.args.self.distinct c.args.more.distinct c.requires.new);
    }
