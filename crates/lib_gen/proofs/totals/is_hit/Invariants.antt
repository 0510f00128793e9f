use Rattle.std.proofs.Common.{◌≡◌, drop}
use Rattle.lib_gen.specs.Classes.{is_among}
use Rattle.lib_gen.proofs.totals.is_hit.Given as goal

abbrev pub invariant-loop-hit : goal.invariant-loop-hit
invariant-loop-hit l = is_among (drop l.hit-index l.hits) l.number ≡ is_among l.hits l.number
