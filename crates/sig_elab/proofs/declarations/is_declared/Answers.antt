use Rattle.std.proofs.Common.{not, sym, ap, ◌∙◌, arith}
use Rattle.std.proofs.lemmas.List.{take_all}
use Rattle.elab_rules.specs.Files.{is_new_unit}
use Rattle.elab_rules.proofs.TopsFound.{known_after, known_before}
use Rattle.sig_elab.proofs.declarations.is_declared.Goals as goal

pub returns-then-has : goal.returns-then-has
returns-then-has c =
    let draft = c.args.draft.now in
    record { value = c.if-has.true ∙ known_before draft.before.now.entries.items draft.added.entries.items c.args.id.now c.len.result c.len.ensures.value (sym c.if-has.true ∙ c.has.ensures.value) }

pub returns-else-has : goal.returns-else-has
returns-else-has c =
    let draft = c.args.draft.now in
    record {
      value = known_after draft.before.now.entries.items draft.added.entries.items c.args.id.now c.len.result c.len.ensures.value c.has-else-has.result (sym c.if-has.false ∙ c.has.ensures.value)
          (c.has-else-has.ensures.value ∙ ap (λ units. not (is_new_unit c.args.id.now units)) (take_all _ draft.added.entries.items (omega (arith, c.len-else-has.ensures.value))));
    }
