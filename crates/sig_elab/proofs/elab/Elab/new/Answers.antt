use Rattle.std.proofs.Common.{◌≡◌, List, ap₂, subst, sym}
use Rattle.elab_rules.specs.declared.entry.UnitEntry.{UnitEntry}
use Rattle.elab_rules.specs.Library.{Basis, empty_basis}
use Rattle.elab_soundness.specs.Soundness.{IsSoundBasis}
use Rattle.elab_rules.specs.States.{State}
use Rattle.sig_elab.specs.Totals.{AreTotals}
use Rattle.elab_rules.specs.Views.{state_of}
use Rattle.sig_elab.proofs.UnitsKept.{none_kept}
use Rattle.sig_elab.proofs.elab.Elab.new.Goals as goal

abbrev basis_by : List UnitEntry → State → Basis
basis_by units state = record { units = units; state = state }

pub invariant_of-result : goal.invariant_of-result
invariant_of-result c =
    let progress = c.in_ok-new.field-0 in
    let e : basis_by c.new.result.entries.items (state_of progress) ≡ empty_basis = ap₂ basis_by c.new.ensures.empty c.in_ok-new.ensures.value in
    record {
      kept = none_kept c.new.result progress c.new.ensures.empty;
      counted = subst (AreTotals c.none.result) (sym e) c.none.ensures.empty;
      tracked = c.in_ok-new.ensures.tracked;
      sound = subst IsSoundBasis (sym e) c.libraries_of_accepted_files_are_valid.ensures.first;
    }
