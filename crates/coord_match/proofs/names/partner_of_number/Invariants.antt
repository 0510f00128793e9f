use Rattle.std.proofs.Common.{◌≡◌, drop}
use Rattle.coord_match.specs.search.Partners.{partner_of_number}
use Rattle.coord_match.proofs.names.partner_of_number.Given as goal

abbrev pub invariant-loop-v : goal.invariant-loop-v
invariant-loop-v l = partner_of_number l.n (drop l.v-index l.variables) l.bound ≡ partner_of_number l.n l.variables l.bound
