-- What holds of an elaborator holds after another file.
use Rattle.std.proofs.Common.{◌≡◌, List, [], ◌++◌, append-nil, sym, ap, ap₂, ◌∙◌, subst}
use Rattle.std.specs.List.{All}
use Rattle.elab_env.specs.Table.{Table}
use Rattle.elab_rules.specs.declared.entry.UnitEntry.{UnitEntry}
use Rattle.elab_rules.specs.declared.progress.Progress.{Progress}
use Rattle.elab_rules.specs.declared.units.Units.{Units}
use Rattle.elab_rules.specs.Details.{HaveOwn}
use Rattle.elab_rules.specs.Library.{Basis}
use Rattle.elab_soundness.specs.Soundness.{IsSoundBasis}
use Rattle.elab_rules.specs.Standing.{IsSettled}
use Rattle.elab_rules.specs.States.{State}
use Rattle.elab_rules.specs.Views.{gone_of, state_of}
use Rattle.sig_elab.specs.declared.draft.Draft.{Draft}
use Rattle.sig_elab.specs.declared.totals.Totals.{Totals}
use Rattle.sig_elab.specs.Elaborators.{basis_of}
use Rattle.sig_elab.specs.Kept.{AreKept, IsSound}
use Rattle.sig_elab.specs.Totals.{AreTotals}
use Rattle.sig_elab.proofs.UnitsKept.{both_kept}

abbrev basis_by : List UnitEntry → State → Basis
basis_by units s = record { units = units; state = s }

-- ---- where a file begins
module _ (old new : Progress) (table : new.table ≡ old.table) (weight : new.weight ≡ old.weight) where
  state_copied : state_of new ≡ state_of old
  state_copied = ap₂ (λ (t : Table) w. let s : State = record { names = t.names; gone = gone_of t; weight = w } in s) table weight

  pub kept_copied : (units : Units) → AreKept units old → AreKept units new
  kept_copied units kept = record {
    settled = subst (λ t. All (λ (unit : UnitEntry). IsSettled t unit.entries) units.entries.items) (sym table) kept.settled;
    own = subst (λ s. HaveOwn s units.details.items units.entries.items) (sym state_copied) kept.own;
  }

  pub counted_copied : (totals : Totals) (before none : List UnitEntry) → none ≡ [] → AreTotals totals (basis_by before (state_of old)) → AreTotals totals (basis_by (before ++ none) (state_of new))
  counted_copied totals before none e counted = subst (AreTotals totals) (sym (ap₂ basis_by (ap (λ us. before ++ us) e ∙ append-nil before) state_copied)) counted

-- ---- after a file
-- the units of the file are appended
pub file_appended : (before whole : Units) (after : Draft) → after.before.now ≡ before
    → whole.entries.items ≡ before.entries.items ++ after.added.entries.items → whole.details.items ≡ before.details.items ++ after.added.details.items
    → IsSoundBasis (basis_of after) → IsSound whole after.progress after.totals
file_appended before whole after same e f sound =
    let units : whole.entries.items ≡ after.before.now.entries.items ++ after.added.entries.items = e ∙ ap (λ (b : Units). b.entries.items ++ after.added.entries.items) (sym same) in
    let details : whole.details.items ≡ after.before.now.details.items ++ after.added.details.items = f ∙ ap (λ (b : Units). b.details.items ++ after.added.details.items) (sym same) in
    let basis : basis_by whole.entries.items (state_of after.progress) ≡ basis_of after = ap (λ us. basis_by us (state_of after.progress)) units in
    record {
      kept = both_kept after.before.now after.added whole after.progress units details after.before_kept after.added_kept;
      counted = subst (AreTotals after.totals) (sym basis) after.counted;
      tracked = after.tracked;
      sound = subst IsSoundBasis (sym basis) sound;
    }

-- the units stay
pub units_stay : (old new : Units) (progress : Progress) (totals : Totals) → new.entries.items ≡ old.entries.items → new.details.items ≡ old.details.items → IsSound old progress totals → IsSound new progress totals
units_stay old new progress totals e f h =
    let basis : basis_by new.entries.items (state_of progress) ≡ basis_by old.entries.items (state_of progress) = ap (λ us. basis_by us (state_of progress)) e in
    record {
      kept = record {
        settled = subst (All (λ (unit : UnitEntry). IsSettled progress.table unit.entries)) (sym e) (h.kept).settled;
        own = subst (λ ds. HaveOwn (state_of progress) ds new.entries.items) (sym f) (subst (HaveOwn (state_of progress) old.details.items) (sym e) (h.kept).own);
      };
      counted = subst (AreTotals totals) (sym basis) h.counted;
      tracked = h.tracked;
      sound = subst IsSoundBasis (sym basis) h.sound;
    }
