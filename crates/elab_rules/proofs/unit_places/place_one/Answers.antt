use Rattle.std.proofs.Common.{◌≡◌, length, not, take, arith, sym, ap, ◌∙◌}
use Rattle.std.proofs.lemmas.List.{length-take-le}
use Rattle.std.proofs.lemmas.Result.{on_ok_weaker}
use Rattle.elab_rules.specs.declared.entry.UnitEntry.{UnitEntry}
use Rattle.elab_rules.specs.Files.{is_new_unit}
use Rattle.elab_rules.proofs.PlacedUnits.{one_taken, placed_again, placed_newly}
use Rattle.elab_rules.proofs.unit_places.place_one.Goals as goal

pub returns-then-has_among-clause-placed : goal.returns-then-has_among-clause-placed
returns-then-has_among-clause-placed c =
    let front = take c.args.n c.args.units.now in
    placed_again c.args.places.now front _ c.index-units-n.result c.requires.placed
    (sym c.if-has_among.true ∙ c.has_among.ensures.value c.args.places.now c.get.ensures.value c.requires.placed ∙ ap (λ id. not (is_new_unit id front)) (c.as_slice-id.ensures.value ∙ ap (λ (u : UnitEntry). u.id) (sym c.index-units-n.is)))
    (one_taken c.args.units.now c.args.n c.index-units-n.result c.requires.within c.index-units-n.is)

pub returns-clause-placed : goal.returns-clause-placed
returns-clause-placed c =
    let front = take c.args.n c.args.units.now in
    let at : c.args.n ≡ length front = sym (length-take-le c.args.n c.args.units.now (omega (arith, c.requires.within))) in
    on_ok_weaker c.insert.result
    (λ inserted. placed_newly c.args.places.now c.insert.new.self front _ c.index-units-n.result c.args.n _ c.requires.placed
    (sym c.if-has_among.false ∙ c.has_among.ensures.value c.args.places.now c.get.ensures.value c.requires.placed ∙ ap (λ id. not (is_new_unit id front)) (c.as_slice-id.ensures.value ∙ ap (λ (u : UnitEntry). u.id) (sym c.index-units-n.is)))
    (c.as_slice-id.ensures.value ∙ ap (λ (u : UnitEntry). u.id) (sym c.index-units-n.is)) at (one_taken c.args.units.now c.args.n c.index-units-n.result c.requires.within c.index-units-n.is) inserted)
    c.insert.ensures.inserted
