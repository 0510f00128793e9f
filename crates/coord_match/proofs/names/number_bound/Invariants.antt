use Rattle.std.proofs.Common.{◌≡◌, drop, max}
use Rattle.coord_match.specs.Names.{number_bound}
use Rattle.coord_match.proofs.names.number_bound.Given as goal

abbrev pub invariant-loop-v : goal.invariant-loop-v
invariant-loop-v l = max l.bound (number_bound (drop l.v-index l.variables)) ≡ number_bound l.variables
