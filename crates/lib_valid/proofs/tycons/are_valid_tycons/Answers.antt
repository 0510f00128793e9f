use Rattle.std.proofs.Common.{refl}
use Rattle.lib_valid.specs.Parts.{IsValidTycon}
use Rattle.lib_valid.proofs.Distinct.{all_more, all_passed}
use Rattle.lib_valid.proofs.tycons.are_valid_tycons.Goals as goal

pub loop-tycon-preserved : goal.loop-tycon-preserved
loop-tycon-preserved c =
    all_more c.args.tycons.now c.loop-tycon.tycon-index c.tycon-item.result c.loop-tycon-test.true c.tycon-item.is
    (IsValidTycon c.args.units.now c.args.lib.now) c.loop-tycon.invariant
    (c.is_valid_tycon.ensures.exact.0 c.if-not-is_valid_tycon.false)

pub returns : goal.returns
returns c = record {
  exact = (
    λ e. all_passed (IsValidTycon c.args.units.now c.args.lib.now) c.args.tycons.now
        c.loop-tycon.tycon-index c.loop-tycon-test.false c.loop-tycon.invariant,
    λ h. refl,
  );
}
