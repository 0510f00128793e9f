use Rattle.search_core.proofs.Found.{can_be_searched}
use Rattle.search_core.proofs.laws.valid_libraries_can_be_searched.Goals as goal

pub returns : goal.returns
returns c = record { law = can_be_searched }
