use Rattle.std.proofs.Common.{take, bytes_eq, arith, sym, ap, ◌∙◌}
use Rattle.std.proofs.lemmas.List.{get_or-take, length-take-le}
use Rattle.elab_rules.specs.declared.entry.UnitEntry.{UnitEntry}
use Rattle.elab_rules.proofs.PlacedUnits.{known_behind, known_within, not_known}
use Rattle.elab_rules.proofs.unit_places.has_among.Goals as goal

pub returns-in-None : goal.returns-in-None
returns-in-None c = record { value = λ places is placed. not_known places _ _ _ c.in-None.is is placed }

pub returns-then-place-count : goal.returns-then-place-count
returns-then-place-count c = record {
  value = λ places is placed.
      known_behind places (take c.args.count c.args.units.now) _ _ _ c.in-Some.is (omega (arith, length-take-le c.args.count c.args.units.now c.requires.within, c.if-place-count.true)) is placed;
}

pub returns-else-place-count : goal.returns-else-place-count
returns-else-place-count c = record {
  value = λ places is placed.
      let unit = c.index-units-place.result in
      c.eq.ensures
      ∙ ap (bytes_eq c.args.id.now) (c.as_slice.ensures.value ∙ ap (λ (u : UnitEntry). u.id) (sym c.index-units-place.is))
      ∙ known_within places (take c.args.count c.args.units.now) c.args.id.now c.args.place c.in-Some.place unit c.in-Some.is
      (omega (arith, length-take-le c.args.count c.args.units.now c.requires.within, c.if-place-count.false))
      (c.index-units-place.is ∙ sym (get_or-take c.args.count c.args.units.now c.in-Some.place unit c.if-place-count.false))
      is placed;
}
