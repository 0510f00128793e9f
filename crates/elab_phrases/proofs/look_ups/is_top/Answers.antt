use Rattle.elab_types.specs.Sources.{text_at}
use Rattle.elab_types.specs.Views.{texts}
use Rattle.elab_rules.specs.Views.{units_seen}
use Rattle.elab_phrases.proofs.SoughtLevels.{being_declared}
use Rattle.elab_phrases.proofs.look_ups.is_top.Goals as goal

pub returns-else-has : goal.returns-else-has
returns-else-has c =
    let site = c.args.site.now in
    record { value = being_declared c.args.id.now (λ bind. text_at (texts site.source) bind.id) site.binds.now (units_seen site.tops) _ _ _ c.has.ensures.value c.if-has.false c.has-else-has.ensures.value (site.declared c.args.id.now) }
