use Rattle.std.proofs.Common.{arith}
use Rattle.sig_base.proofs.FileCounts.{none_fell-set}
use Rattle.sig_base.proofs.fault_counts.FaultCounts.raise.Goals as goal

pub returns-clause-later : goal.returns-clause-later
returns-clause-later c = none_fell-set _ _ _ _ _ c.set.ensures.set c.set.ensures.kept (omega (arith, c.at.ensures.value, c.at.type_inv, c.saturating_add.ensures))
