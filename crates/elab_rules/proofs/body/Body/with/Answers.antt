use Rattle.std.proofs.Common.{◌≡◌, length, None, Some, sym, subst, ◌∙◌, arith}
use Rattle.elab_rules.specs.Distinct.{AreDistinct}
use Rattle.elab_rules.specs.Indexes.{IsIndex}
use Rattle.elab_rules.proofs.DistinctMore.{distinct_more}
use Rattle.elab_rules.proofs.body.Body.with.Goals as goal

pub invariant_of-result : goal.invariant_of-result
invariant_of-result c =
    let own = c.args.self.entries in
    let end : c.len.result ≡ length own.items = omega (arith, c.len.ensures, own.ok.0) in
    record {
      indexed = subst (IsIndex c.index_entry.new.index) (sym c.in_ok-push.ensures.items) (c.in_ok-index_entry.ensures.added own.items c.args.self.indexed end);
      distinct = subst AreDistinct (sym c.in_ok-push.ensures.items)
          (distinct_more own.items c.args.entry c.args.self.distinct c.requires.new (λ id es is. (let no : None ≡ Some es = sym (c.requires.plain id) ∙ is in cc)));
    }
