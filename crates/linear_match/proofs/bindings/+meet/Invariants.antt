use Rattle.std.proofs.Common.{take}
use Rattle.linear_match.specs.Meetings.{MeetEach, MeetFields}
use Rattle.linear_match.specs.search.Bindings.{IsBefore, LeadsBy}
use Rattle.linear_match.proofs.bindings.+meet.Given as goal

abbrev pub invariant-meet_each-loop-i : goal.invariant-meet_each-loop-i
invariant-meet_each-loop-i l = record {
  before : IsBefore l.fn.met l.met;
  leads : LeadsBy l.fn.names l.fn.met l.met (MeetEach (take l.i l.parts) (take l.i l.others));
}

abbrev pub invariant-meet_fields-loop-i : goal.invariant-meet_fields-loop-i
invariant-meet_fields-loop-i l = record {
  before : IsBefore l.fn.met l.met;
  leads : LeadsBy l.fn.names l.fn.met l.met (MeetFields (take l.i l.fields) (take l.i l.others));
}
