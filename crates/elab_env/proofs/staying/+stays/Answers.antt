use Rattle.elab_env.proofs.Unchanged.{unchanged_arrow, unchanged_con, unchanged_rec, unchanged_tup, unchanged_var}
use Rattle.elab_env.proofs.staying.+stays.Goals as goal

pub stays-returns-in-Var : goal.stays-returns-in-Var
stays-returns-in-Var t c = record { value = λ h. unchanged_var c.args.table.now.realizations c.args.t.now _ c.in-Var.is }

pub stays-returns-then-name_stays : goal.stays-returns-then-name_stays
stays-returns-then-name_stays t c = record {
  value = λ h. unchanged_con c.args.table.now.realizations c.args.t.now c.in-Con.name _ _ c.in-Con.is c.as_slice.ensures.value (c.name_stays.ensures.value c.if-name_stays.true) (c.all_stay.ensures.value h);
}

pub stays-returns-in-Rec : goal.stays-returns-in-Rec
stays-returns-in-Rec t c = record {
  value = λ h. unchanged_rec c.args.table.now.realizations c.args.t.now _ _ c.in-Rec.is c.as_slice-in-Rec.ensures.value (c.fields_stay.ensures.value h);
}

pub stays-returns-in-Tup : goal.stays-returns-in-Tup
stays-returns-in-Tup t c = record {
  value = λ h. unchanged_tup c.args.table.now.realizations c.args.t.now _ _ c.in-Tup.is c.as_slice-in-Tup.ensures.value (c.all_stay-in-Tup.ensures.value h);
}

pub stays-returns-then-stays : goal.stays-returns-then-stays
stays-returns-then-stays t c = record {
  value = λ h. unchanged_arrow c.args.table.now.realizations c.args.t.now _ _ _ _ c.in-Arrow.is c.get.ensures.value c.get-then-stays.ensures.value (c.stays.ensures.value c.if-stays.true) (c.stays-then-stays.ensures.value h);
}
