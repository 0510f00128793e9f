use Rattle.type_core.proofs.Closed.{closed_is_scheme}
use Rattle.type_core.proofs.laws.closing_makes_schemes.Goals as goal

pub returns : goal.returns
returns c = record { law = closed_is_scheme }
