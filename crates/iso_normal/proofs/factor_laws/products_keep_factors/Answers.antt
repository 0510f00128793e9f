use Rattle.iso_normal.specs.Factors.{factors}
use Rattle.iso_normal.proofs.Reified.{are_factors, factors_kept}
use Rattle.iso_normal.proofs.factor_laws.products_keep_factors.Goals as goal

pub returns : goal.returns
returns c = record { law = λ t. factors_kept (factors t) (are_factors t); lists = factors_kept }
