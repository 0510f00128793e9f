use Rattle.std.proofs.Common.{◌≡◌, ◌-◌}
use Rattle.lib_index.specs.Reading.{charged, many, member_at, rest_of, with_front}
use Rattle.type_core.specs.Weight.{member_weight}
use Rattle.lib_index.proofs.library_reading.members.Given as goal

abbrev pub invariant-loop : goal.invariant-loop
invariant-loop l = with_front l.members (many (charged member_weight (member_at l.names)) (l.count - l.counter)
    (rest_of l.after)) ≡ many (charged member_weight (member_at l.names)) l.count (rest_of l.rest)
