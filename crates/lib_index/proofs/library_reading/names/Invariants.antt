use Rattle.std.proofs.Common.{◌≡◌, ◌-◌}
use Rattle.lib_index.specs.Reading.{charged, many, name_at, rest_of, with_front}
use Rattle.type_core.specs.Weight.{name_weight}
use Rattle.lib_index.proofs.library_reading.names.Given as goal

abbrev pub invariant-loop : goal.invariant-loop
invariant-loop l = with_front l.names (many (charged name_weight name_at) (l.count - l.counter) (rest_of l.after))
    ≡ with_front l.fn.known (many (charged name_weight name_at) l.count (rest_of l.rest))
