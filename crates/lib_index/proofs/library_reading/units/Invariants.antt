use Rattle.std.proofs.Common.{◌≡◌, ◌-◌}
use Rattle.lib_index.specs.Reading.{charged, many, rest_of, unit_at, with_front}
use Rattle.type_core.specs.Weight.{unit_weight}
use Rattle.lib_index.proofs.library_reading.units.Given as goal

abbrev pub invariant-loop : goal.invariant-loop
invariant-loop l = with_front l.units (many (charged unit_weight unit_at) (l.count - l.counter) (rest_of l.after))
    ≡ many (charged unit_weight unit_at) l.count (rest_of l.rest)
