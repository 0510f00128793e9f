use Rattle.elab_rules.specs.Library.{unit_members}
use Rattle.sig_elab.proofs.Listings.{listed_more, unit_members_listed}
use Rattle.sig_elab.proofs.listing.all_members.Goals as goal

pub loop-unit-preserved : goal.loop-unit-preserved
loop-unit-preserved c =
    listed_more unit_members _ _ _ _ _ _ _ c.loop-unit-test.true c.unit-item.is
    (unit_members_listed c.unit-item.result _ _ _ _ c.as_slice.ensures.value c.as_slice-in-loop-unit.ensures.value c.in_ok-push_members.ensures.pushed)
    c.loop-unit.invariant
