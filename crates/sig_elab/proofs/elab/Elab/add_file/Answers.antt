use Rattle.sig_elab.proofs.ElaboratorsKept.{counted_copied, file_appended, kept_copied, units_stay}
use Rattle.sig_elab.proofs.UnitsKept.{none_kept}
use Rattle.sig_elab.proofs.elab.Elab.add_file.Goals as goal

pub invariant_of-draft : goal.invariant_of-draft
invariant_of-draft c =
    let progress = c.self.inside.progress in
    let copy = c.in_ok-copy.field-0 in
    let table = c.in_ok-copy.ensures.value.0 in
    let weight = c.in_ok-copy.ensures.value.1 in
    record {
      before_kept = kept_copied progress copy table weight c.self.inside.units c.self.invariant.kept;
      added_kept = none_kept c.new.result copy c.new.ensures.empty;
      tracked = c.in_ok-copy.ensures.tracked;
      counted = counted_copied progress copy table weight c.self.inside.totals c.self.inside.units.entries.items c.new.result.entries.items c.new.ensures.empty c.self.invariant.counted;
    }

pub invariant_of-self : goal.invariant_of-self
invariant_of-self c = units_stay c.self.inside.units c.append.new.self c.self.inside.progress c.self.inside.totals c.in_err-append.ensures.kept c.in_err-append.ensures.kept_beside c.self.invariant

pub invariant_of-self-2 : goal.invariant_of-self-2
invariant_of-self-2 c = file_appended c.self.inside.units c.append.new.self c.in_ok-added.field-0 c.in_ok-added.ensures.before c.in_ok-append.ensures.appended c.in_ok-append.ensures.beside c.in_ok-added.ensures.sound
