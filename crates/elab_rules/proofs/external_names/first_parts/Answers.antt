use Rattle.std.proofs.Common.{◌||◌, is_some, ap, ◌∙◌}
use Rattle.elab_rules.specs.Files.{is_first_part}
use Rattle.elab_types.specs.Places.{place_at}
use Rattle.elab_rules.proofs.ElsewhereNames.{external_passed, own_passed}
use Rattle.elab_rules.proofs.external_names.first_parts.Goals as goal

pub loop-n-preserved-then-not-name : goal.loop-n-preserved-then-not-name
loop-n-preserved-then-not-name c = λ id. own_passed _ c.loop-n.n c.name-name.result.now id _ c.name-name.ensures.value c.if-not-name.true (c.loop-n.invariant id)

pub loop-n-preserved : goal.loop-n-preserved
loop-n-preserved c = λ id.
    external_passed _ c.loop-n.n c.name-name.result.now id _ _ c.name-name.ensures.value c.if-not-name.false (c.loop-n.invariant id)
    (c.in_ok-add_first.ensures.added id ∙ ap (λ path. is_some (place_at c.loop-n.firsts id) || is_first_part id path) c.as_slice.ensures.value)
