use Rattle.std.proofs.Common.{refl}
use Rattle.lib_valid.specs.Parts.{IsValidName}
use Rattle.lib_valid.proofs.Distinct.{all_more, all_passed}
use Rattle.lib_valid.proofs.names.are_valid_names.Goals as goal

pub loop-name-preserved : goal.loop-name-preserved
loop-name-preserved c =
    all_more c.args.names.now c.loop-name.name-index c.name-item.result c.loop-name-test.true c.name-item.is
    (IsValidName c.args.units.now c.args.tycons.now) c.loop-name.invariant
    (c.is_valid_name.ensures.exact.0 c.if-not-is_valid_name.false)

pub returns : goal.returns
returns c = record {
  exact = (
    λ e. all_passed (IsValidName c.args.units.now c.args.tycons.now) c.args.names.now
        c.loop-name.name-index c.loop-name-test.false c.loop-name.invariant,
    λ h. refl,
  );
}
