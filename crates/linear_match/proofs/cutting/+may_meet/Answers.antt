use Rattle.linear_match.proofs.Cut.{no_field_at, none_at}
use Rattle.linear_match.proofs.MeetAll.{FieldsMeet, TypesMeet, all_fields, all_same_length, all_types}
use Rattle.linear_match.proofs.cutting.+may_meet.Goals as goal

pub each_may_meet-returns-then-parts-others : goal.each_may_meet-returns-then-parts-others
each_may_meet-returns-then-parts-others t c =
    record { none = λ e ms each. c.if-parts-others.true (all_same_length TypesMeet (all_types each)) }

pub each_may_meet-returns-then-not-may_meet : goal.each_may_meet-returns-then-not-may_meet
each_may_meet-returns-then-not-may_meet t c = record {
  none = λ e. none_at c.args.parts.now c.args.others.now c.loop-i.i c.index-parts-i.result c.index-others-i.result
      c.loop-i-test.true c.index-parts-i.is c.index-others-i.is (c.may_meet.ensures.none c.if-not-may_meet.true);
}

pub fields_may_meet-returns-then-fields-others : goal.fields_may_meet-returns-then-fields-others
fields_may_meet-returns-then-fields-others t c =
    record { none = λ e ms each. c.if-fields-others.true (all_same_length FieldsMeet (all_fields each)) }

pub fields_may_meet-returns-then-not-may_meet : goal.fields_may_meet-returns-then-not-may_meet
fields_may_meet-returns-then-not-may_meet t c = record {
  none = λ e. no_field_at c.args.fields.now c.args.others.now c.loop-i.i c.index-fields-i.result
      c.index-others-i.result c.loop-i-test.true (c.may_meet.ensures.none c.if-not-may_meet.true);
}
