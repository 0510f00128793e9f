use Rattle.iso_normal.proofs.CoordinateVariables.{pairs_fix}
use Rattle.iso_normal.proofs.consistency_laws.pairings_fix_renamings.Goals as goal

pub returns : goal.returns
returns c = record { law = λ r s c d p. pairs_fix r s }
