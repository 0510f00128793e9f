use Rattle.std.proofs.Common.{◌≡◌, drop}
use Rattle.coord_match.proofs.MarksByNumber.{marked_by_number}
use Rattle.coord_match.proofs.tests.are_marked_by_number.Given as goal

abbrev pub invariant-loop-v : goal.invariant-loop-v
invariant-loop-v l = marked_by_number (drop l.v-index l.variables) ≡ marked_by_number l.variables
