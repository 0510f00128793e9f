use Rattle.std.proofs.Common.{sym}
use Rattle.type_core.proofs.Insertions.{one_inserted}
use Rattle.type_core.proofs.records.in_label_order.Goals as goal

pub fields-preserved : goal.fields-preserved
fields-preserved c =
    one_inserted _ _ _ _ _ c.in-Some.field _ _ c.in_ok-insert.ensures.items c.as_slice.ensures.value
    (c.place_for-place.ensures.value c.in-Some.field (sym c.as_slice-in-Some.ensures.value)) c.in-Some.ensures.popped c.fields.invariant
