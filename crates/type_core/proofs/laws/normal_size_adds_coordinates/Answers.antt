use Rattle.type_core.proofs.NormalSizes.{normal_size_is_total}
use Rattle.type_core.proofs.laws.normal_size_adds_coordinates.Goals as goal

pub returns : goal.returns
returns c = record { law = normal_size_is_total }
