-- What is kept of units.
use Rattle.std.specs.List.{All}
use Rattle.elab_rules.specs.declared.progress.Progress.{Progress}
use Rattle.sig_elab.specs.declared.totals.Totals.{Totals}
use Rattle.elab_rules.specs.declared.units.Units.{Units}
use Rattle.elab_rules.specs.Details.{HaveOwn}
use Rattle.elab_soundness.specs.Soundness.{IsSoundBasis}
use Rattle.elab_rules.specs.Standing.{IsSettled}
use Rattle.sig_elab.specs.Totals.{AreTotals}
use Rattle.elab_rules.specs.Tracking.{IsTracked}
use Rattle.elab_rules.specs.Views.{state_of}

-- units with what is kept beside them: they are settled, and their own names are kept
pub record AreKept (units : Units) (progress : Progress) : Type 0 where
  pub settled : All (λ unit. IsSettled progress.table unit.entries) units.entries.items
  pub own : HaveOwn (state_of progress) units.details.items units.entries.items

-- what holds of an elaborator between files
pub record IsSound (units : Units) (progress : Progress) (totals : Totals) : Type 0 where
  pub kept : AreKept units progress
  pub counted : AreTotals totals (record { units = units.entries.items; state = state_of progress })
  pub tracked : IsTracked progress
  pub sound : IsSoundBasis (record { units = units.entries.items; state = state_of progress })
