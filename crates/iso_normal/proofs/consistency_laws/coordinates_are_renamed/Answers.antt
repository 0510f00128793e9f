use Rattle.iso_normal.proofs.Consistent.{coordinates_renamed}
use Rattle.iso_normal.proofs.consistency_laws.coordinates_are_renamed.Goals as goal

pub returns : goal.returns
returns c = record { law = coordinates_renamed }
