use Rattle.std.proofs.Common.{◌<◌, length, take, sym, ap, ◌∙◌, refl, arith}
use Rattle.std.proofs.lemmas.Option.{slice_get_read}
use Rattle.elab_rules.specs.Views.{unit_seen}
use Rattle.elab_rules.proofs.UnitsFound.{unit_here, unit_missing, unit_nowhere}
use Rattle.elab_rules.proofs.units.Units.find.Goals as goal

pub returns-in_err-place-clause-value : goal.returns-in_err-place-clause-value
returns-in_err-place-clause-value c =
    let units = c.args.self.now in
    ap unit_seen c.from_residual.ensures ∙ unit_nowhere units.places units.entries.items c.args.id.now c.args.count c.get.result c.below.result c.requires.within units.placed c.get.ensures.value c.below.ensures.value c.in_err-place.was

pub returns-then-has-clause-value : goal.returns-then-has-clause-value
returns-then-has-clause-value c =
    let units = c.args.self.now in
    unit_here units.places units.entries.items c.args.id.now c.args.count c.get.result c.below.result c.requires.within units.placed c.get.ensures.value c.below.ensures.value
    c.in_ok-place.place c.index.result.now c.in_ok-place.was c.in_ok-place.ensures.within (sym c.if-has.true ∙ c.has.ensures.value) c.index.ensures

pub returns-then-has-clause-top : goal.returns-then-has-clause-top
returns-then-has-clause-top c =
    let units = c.args.self.now in
    let within : c.in_ok-place.place < length units.entries.items = omega (arith, c.requires.within, c.in_ok-place.ensures.within) in
    record {
      place = c.in_ok-place.place;
      unit = slice_get_read units.entries.items (length units.entries.items) c.in_ok-place.place c.index.result.now refl within c.index.ensures;
      detail = slice_get_read units.details.items (length units.entries.items) c.in_ok-place.place c.index-then-has.result.now (sym units.detailed.count) within c.index-then-has.ensures;
    }

pub returns-else-has-clause-value : goal.returns-else-has-clause-value
returns-else-has-clause-value c = sym (unit_missing (take c.args.count c.args.self.now.entries.items) c.args.id.now (sym c.if-has.false ∙ c.has.ensures.value))
