use Rattle.std.proofs.Common.{◌≡◌, ◌-◌}
use Rattle.lib_index.specs.Reading.{coded, flag_of, many, rest_of, with_front}
use Rattle.lib_index.proofs.library_reading.marks.Given as goal

abbrev pub invariant-loop : goal.invariant-loop
invariant-loop l = with_front l.marks (many (coded flag_of) (l.count - l.counter) (rest_of l.after)) ≡ many
    (coded flag_of) l.count (rest_of l.rest)
