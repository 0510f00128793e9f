use Rattle.std.proofs.Common.{◌≡◌, ◌∷◌, [], ◌++◌, length, sym, ap₂, subst, ◌∙◌, arith}
use Rattle.elab_rules.specs.Distinct.{AreDistinct}
use Rattle.elab_rules.specs.Environments.{the_structure}
use Rattle.elab_rules.specs.Indexes.{IsIndex}
use Rattle.elab_rules.proofs.DistinctMore.{distinct_inside, distinct_more, new_structure_step}
use Rattle.elab_rules.proofs.body.Body.with_structure.Goals as goal

pub invariant_of-result : goal.invariant_of-result
invariant_of-result c =
    let own = c.args.self.entries in
    let inner = c.args.inner.entries.items in
    let id = c.args.id.now in
    let end : c.len.result ≡ length own.items = omega (arith, c.len.ensures, own.ok.0) in
    let pushed : c.push.new.self.items ≡ own.items ++ the_structure id inner ∷ [] =
    c.in_ok-push.ensures.items ∙ ap₂ (λ i es. own.items ++ the_structure i es ∷ []) c.in_ok-id.ensures.value c.from_vec.ensures.value in
    record {
      indexed = subst (IsIndex c.add_structure.new.self) (sym pushed) (c.in_ok-add_structure.ensures.added own.items inner c.args.self.indexed end c.args.inner.indexed);
      distinct = subst AreDistinct (sym pushed)
          (distinct_more own.items (the_structure id inner) c.args.self.distinct (new_structure_step own.items id inner c.requires.new) (distinct_inside id inner c.args.inner.distinct));
    }
