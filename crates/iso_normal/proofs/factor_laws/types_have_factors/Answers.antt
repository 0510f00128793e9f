use Rattle.iso_normal.proofs.Reified.{append_factors, are_factors, arrow_factors}
use Rattle.iso_normal.proofs.factor_laws.types_have_factors.Goals as goal

pub returns : goal.returns
returns c = record { law = are_factors; joined = λ fs gs. append_factors; arrow = λ fs gs. arrow_factors }
