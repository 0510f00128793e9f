use Rattle.std.proofs.Common.{◌≡◌, ◌<◌, ℕ, Some, length, slice_get}
use Rattle.coord_match.specs.search.Partners.{partner_of_number}
use Rattle.coord_match.proofs.names.names.Given as goal

abbrev pub invariant-loop-n : goal.invariant-loop-n
invariant-loop-n l = (length l.done ≡ l.n) × ((k : ℕ) → k < l.n → slice_get l.done k ≡ Some (partner_of_number k l.variables l.bound))
