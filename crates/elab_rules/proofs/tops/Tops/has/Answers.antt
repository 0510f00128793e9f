use Rattle.std.proofs.Common.{take, sym, ◌∙◌}
use Rattle.elab_rules.proofs.TopsFound.{known_after, known_before}
use Rattle.elab_rules.proofs.tops.Tops.has.Goals as goal

pub returns-then-has : goal.returns-then-has
returns-then-has c =
    let tops = c.args.self.now in
    record { value = c.if-has.true ∙ known_before tops.before.now.entries.items (take tops.count tops.added.now.entries.items) c.args.id.now c.len.result c.len.ensures.value (sym c.if-has.true ∙ c.has.ensures.value) }

pub returns-else-has : goal.returns-else-has
returns-else-has c =
    let tops = c.args.self.now in
    record {
      value = known_after tops.before.now.entries.items (take tops.count tops.added.now.entries.items) c.args.id.now c.len.result c.len.ensures.value c.has-else-has.result
          (sym c.if-has.false ∙ c.has.ensures.value) c.has-else-has.ensures.value;
    }
