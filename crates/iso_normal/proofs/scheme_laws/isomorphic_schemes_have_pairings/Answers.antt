use Rattle.iso_normal.proofs.Schemes.{consistent, equal_in_theory}
use Rattle.iso_normal.proofs.scheme_laws.isomorphic_schemes_have_pairings.Goals as goal

pub returns : goal.returns
returns c = record { law = λ a b p q. (consistent a b, λ found. equal_in_theory a b p q found.0 found.1 found.2) }
