use Rattle.conv_terms.proofs.Moving.{shifted_by_none}
use Rattle.conv_terms.proofs.laws.shifting_by_none.Goals as goal

pub returns : goal.returns
returns c = record { law = λ from t. shifted_by_none t from }
