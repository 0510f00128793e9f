use Rattle.std.proofs.Common.{refl}
use Rattle.lib_valid.specs.Parts.{IsValidMember}
use Rattle.lib_valid.proofs.Distinct.{all_more, all_passed}
use Rattle.lib_valid.proofs.members.are_valid_members.Goals as goal

pub loop-member-preserved : goal.loop-member-preserved
loop-member-preserved c =
    all_more c.args.members.now c.loop-member.member-index c.member-item.result c.loop-member-test.true c.member-item.is
    (IsValidMember c.args.units.now c.args.lib.now) c.loop-member.invariant
    (c.in_ok-is_valid_member.ensures.exact.0 c.if-not-branch.false)

pub returns : goal.returns
returns c = record {
  exact = (
    λ e. all_passed (IsValidMember c.args.units.now c.args.lib.now) c.args.members.now c.loop-member.member-index
        c.loop-member-test.false c.loop-member.invariant,
    λ h. refl,
  );
}
