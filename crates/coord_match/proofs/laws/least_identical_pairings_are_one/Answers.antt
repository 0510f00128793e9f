use Rattle.coord_match.proofs.OneLeast.{one_identical}
use Rattle.coord_match.proofs.laws.least_identical_pairings_are_one.Goals as goal

pub returns : goal.returns
returns c = record { pairing = λ a b p q. one_identical }
