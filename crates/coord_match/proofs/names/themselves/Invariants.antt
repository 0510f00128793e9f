use Rattle.std.proofs.Common.{◌≡◌, [], drop}
use Rattle.coord_match.specs.search.Partners.{with_themselves}
use Rattle.coord_match.proofs.names.themselves.Given as goal

abbrev pub invariant-loop-v : goal.invariant-loop-v
invariant-loop-v l = with_themselves l.bound (drop l.v-index l.variables) ≡ with_themselves [] l.variables
