use Rattle.std.proofs.Common.{refl}
use Rattle.lib_valid.specs.Parts.{IsValidUnit}
use Rattle.lib_valid.proofs.Distinct.{all_more, all_passed}
use Rattle.lib_valid.proofs.units.are_valid_units.Goals as goal

pub loop-unit-preserved : goal.loop-unit-preserved
loop-unit-preserved c =
    all_more c.args.units.now c.loop-unit.unit-index c.unit-item.result c.loop-unit-test.true c.unit-item.is IsValidUnit
    c.loop-unit.invariant
    (c.is_valid_unit.ensures.exact.0 c.if-not-is_valid_unit.false)

pub returns : goal.returns
returns c = record {
  exact = (
    λ e. all_passed IsValidUnit c.args.units.now c.loop-unit.unit-index c.loop-unit-test.false
        c.loop-unit.invariant,
    λ h. refl,
  );
}
