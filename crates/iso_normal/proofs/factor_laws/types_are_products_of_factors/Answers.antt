use Rattle.iso_normal.proofs.Complete.{linearly_whole}
use Rattle.iso_normal.proofs.factor_laws.types_are_products_of_factors.Goals as goal

pub returns : goal.returns
returns c = record { law = linearly_whole }
