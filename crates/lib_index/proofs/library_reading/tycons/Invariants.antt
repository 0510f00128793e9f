use Rattle.std.proofs.Common.{◌≡◌, ◌-◌}
use Rattle.lib_index.specs.Reading.{charged, many, rest_of, tycon_at, with_front}
use Rattle.type_core.specs.Weight.{tycon_weight}
use Rattle.lib_index.proofs.library_reading.tycons.Given as goal

abbrev pub invariant-loop : goal.invariant-loop
invariant-loop l = with_front l.tycons (many (charged tycon_weight (tycon_at l.names)) (l.count - l.counter)
    (rest_of l.after)) ≡ many (charged tycon_weight (tycon_at l.names)) l.count (rest_of l.rest)
