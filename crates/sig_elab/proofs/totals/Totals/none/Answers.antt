use Rattle.std.proofs.Common.{refl}
use Rattle.sig_elab.proofs.UnitTotals.{nothing_weighs}
use Rattle.sig_elab.proofs.totals.Totals.none.Goals as goal

pub returns : goal.returns
returns c = record { empty = nothing_weighs _ refl refl refl }
