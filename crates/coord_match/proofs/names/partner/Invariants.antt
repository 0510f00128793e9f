use Rattle.std.proofs.Common.{◌≡◌, drop}
use Rattle.coord_match.specs.search.Partners.{partner}
use Rattle.coord_match.proofs.names.partner.Given as goal

abbrev pub invariant-loop-one : goal.invariant-loop-one
invariant-loop-one l = partner l.v (drop l.one-index l.bound) ≡ partner l.v l.bound
