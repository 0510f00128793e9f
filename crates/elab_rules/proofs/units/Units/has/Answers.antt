use Rattle.std.proofs.Common.{◌≡◌, not, take, sym, subst}
use Rattle.elab_rules.specs.Files.{is_new_unit}
use Rattle.elab_rules.specs.Places.{ArePlaced}
use Rattle.elab_rules.proofs.PlacedUnits.{front_placed}
use Rattle.elab_rules.proofs.units.Units.has.Goals as goal

pub returns : goal.returns
returns c =
    let units = c.args.self.now in
    record {
      value = subst (λ us. c.has_among.result ≡ not (is_new_unit c.args.id.now (take c.args.count us))) c.as_slice.ensures.value
          (c.has_among.ensures.value units.places c.get.ensures.value
          (front_placed units.places c.as_slice.result.now c.args.count (subst (ArePlaced units.places) (sym c.as_slice.ensures.value) units.placed)));
    }
