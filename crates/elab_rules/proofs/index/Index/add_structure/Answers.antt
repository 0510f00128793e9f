use Rattle.std.proofs.Common.{◌∷◌, [], ◌++◌, rules, sym, ◌∙◌, subst}
use Rattle.std.proofs.lemmas.Result.{on_ok_weaker}
use Rattle.elab_rules.specs.declared.index.Index.TheViews as views
use Rattle.elab_rules.specs.declared.index.Index.TheViews.{out-roll-Index, roll-out-Index}
use Rattle.elab_rules.specs.Environments.{the_structure}
use Rattle.elab_rules.specs.Indexes.{IsIndex}
use Rattle.elab_rules.proofs.IndexSteps.{structure_added, structure_known}
use Rattle.elab_rules.proofs.index.Index.add_structure.Goals as goal

pub returns-then-has : goal.returns-then-has
returns-then-has c = record {
  added = λ before inner h at indexed.
      subst (λ i. IsIndex i (before ++ the_structure c.args.id.now inner ∷ [])) (sym (roll-out-Index c.args.self.now))
      (structure_known c.args.self.now c.args.id.now before inner (sym c.has.ensures.value ∙ c.if-has.true) h);
}

pub returns : goal.returns
returns c = record {
  added = on_ok_weaker c.push.result
      (λ pushed before inner h at indexed.
      structure_added c.args.self.now _ c.insert.new.self c.push.new.self c.args.id.now _ c.args.index c.len.result c.args.place
      (simp out-roll-Index) (sym c.has.ensures.value ∙ c.if-has.false) (c.len.ensures.value ∙ (simp out-roll-Index))
      (λ id. simp out-roll-Index at (c.in_ok-insert.ensures.inserted id))
      (simp out-roll-Index at pushed) (search (rules, views.the_lemmas)) (search (rules, views.the_lemmas)) before inner h at indexed)
      c.push.ensures.pushed;
}
