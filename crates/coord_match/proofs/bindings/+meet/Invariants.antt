use Rattle.std.proofs.Common.{◌≡◌, drop, map}
use Rattle.coord_match.specs.search.Bindings.{IsBefore, all_met, met, met_field}
use Rattle.coord_match.proofs.bindings.+meet.Given as goal

abbrev pub invariant-meet_all-loop-i : goal.invariant-meet_all-loop-i
invariant-meet_all-loop-i l = IsBefore l.fn.bound l.bound × (all_met (map met (drop l.i l.parts)) (drop l.i l.others) l.bound ≡ all_met (map met l.parts) l.others l.fn.bound)

abbrev pub invariant-meet_fields-loop-i : goal.invariant-meet_fields-loop-i
invariant-meet_fields-loop-i l = IsBefore l.fn.bound l.bound × (all_met (map met_field (drop l.i l.fields)) (drop l.i l.others) l.bound ≡ all_met (map met_field l.fields) l.others l.fn.bound)
