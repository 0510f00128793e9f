use Rattle.elab_rules.specs.Library.{unit_tycons}
use Rattle.sig_elab.proofs.Listings.{listed_more, unit_tycons_listed}
use Rattle.sig_elab.proofs.listing.all_tycons.Goals as goal

pub loop-unit-preserved : goal.loop-unit-preserved
loop-unit-preserved c =
    listed_more unit_tycons _ _ _ _ _ _ _ c.loop-unit-test.true c.unit-item.is
    (unit_tycons_listed c.unit-item.result _ _ _ _ c.as_slice.ensures.value c.as_slice-in-loop-unit.ensures.value c.in_ok-push_tycons.ensures.pushed)
    c.loop-unit.invariant
