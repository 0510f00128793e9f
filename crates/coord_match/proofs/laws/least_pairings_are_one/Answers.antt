use Rattle.coord_match.proofs.OneLeast.{one_pairing, one_renaming}
use Rattle.coord_match.proofs.laws.least_pairings_are_one.Goals as goal

pub returns : goal.returns
returns c = record { pairing = λ r s a b p q. one_pairing; renaming = λ r s a b p q. one_renaming }
