use Rattle.type_core.proofs.Closed.{closed_renamed}
use Rattle.type_core.proofs.laws.closing_undoes_renaming.Goals as goal

pub returns : goal.returns
returns c = record { law = closed_renamed }
