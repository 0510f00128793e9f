use Rattle.type_core.proofs.Closed.{closed_scheme}
use Rattle.type_core.proofs.laws.closing_keeps_schemes.Goals as goal

pub returns : goal.returns
returns c = record { law = closed_scheme }
