use Rattle.elab_rules.proofs.PlacedUnits.{all_placed, any_err, earlier_placed}
use Rattle.elab_rules.proofs.unit_places.place_all.Goals as goal

pub returns-in_err-place_one-clause-kept : goal.returns-in_err-place_one-clause-kept
returns-in_err-place_one-clause-kept c =
    any_err c.from_residual.result (earlier_placed c.place_one.new.places c.args.units.now c.args.from c.loop-n.n c.loop-n.auto.n c.in_err-place_one.ensures.kept)

pub returns-clause-placed : goal.returns-clause-placed
returns-clause-placed c = all_placed c.loop-n.places c.args.units.now c.loop-n.n c.loop-n-test.false c.loop-n.invariant
