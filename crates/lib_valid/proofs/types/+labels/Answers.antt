use Rattle.std.proofs.Common.{refl, sym, subst}
use Rattle.std.specs.List.{All}
use Rattle.type_core.specs.ValidLibrary.{IsLabel}
use Rattle.type_core.specs.Weight.{labels_of}
use Rattle.lib_valid.proofs.Distinct.{all_more, all_passed}
use Rattle.lib_valid.proofs.Labels.{all_var, told_arrow, told_con, told_left, told_rec, told_tup}
use Rattle.lib_valid.proofs.types.+labels.Goals as goal

pub has_labels-returns-in-Con : goal.has_labels-returns-in-Con
has_labels-returns-in-Con t c = record {
  exact = told_con IsLabel c.args.t.now c.have_labels.result c.in-Con.field-0 c.in-Con.arguments c.as_slice.result.now
      c.in-Con.is c.as_slice.ensures.value c.have_labels.ensures.exact;
}

pub has_labels-returns-in-Rec : goal.has_labels-returns-in-Rec
has_labels-returns-in-Rec t c = record {
  exact = told_rec IsLabel c.args.t.now c.fields_have_labels.result c.in-Rec.fields c.as_slice-in-Rec.result.now
      c.in-Rec.is c.as_slice-in-Rec.ensures.value c.fields_have_labels.ensures.exact;
}

pub has_labels-returns-in-Tup : goal.has_labels-returns-in-Tup
has_labels-returns-in-Tup t c = record {
  exact = told_tup IsLabel c.args.t.now c.have_labels-in-Tup.result c.in-Tup.components c.as_slice-in-Tup.result.now
      c.in-Tup.is c.as_slice-in-Tup.ensures.value c.have_labels-in-Tup.ensures.exact;
}

pub has_labels-returns-in-Var : goal.has_labels-returns-in-Var
has_labels-returns-in-Var t c =
    record {
      exact = (
        λ e. subst (λ z. All IsLabel (labels_of z)) (sym c.in-Var.is) (all_var IsLabel c.in-Var.field-0),
        λ h. refl,
      );
    }

pub has_labels-returns-then-has_labels : goal.has_labels-returns-then-has_labels
has_labels-returns-then-has_labels t c = record {
  exact = told_arrow IsLabel c.args.t.now c.has_labels-then-has_labels.result c.in-Arrow.from c.in-Arrow.to
      c.get.result.now c.get-then-has_labels.result.now c.has_labels.result
      c.in-Arrow.is c.get.ensures.value c.get-then-has_labels.ensures.value c.if-has_labels.true
      c.has_labels.ensures.exact c.has_labels-then-has_labels.ensures.exact;
}

pub has_labels-returns-else-has_labels : goal.has_labels-returns-else-has_labels
has_labels-returns-else-has_labels t c = record {
  exact = told_left IsLabel c.args.t.now c.has_labels.result c.in-Arrow.from c.in-Arrow.to c.get.result.now
      c.in-Arrow.is c.get.ensures.value c.if-has_labels.false c.has_labels.ensures.exact;
}

pub have_labels-loop-part-preserved : goal.have_labels-loop-part-preserved
have_labels-loop-part-preserved t c =
    all_more c.args.parts.now c.loop-part.part-index c.part-item.result c.loop-part-test.true c.part-item.is
    (λ part. All IsLabel (labels_of part)) c.loop-part.invariant
    (c.has_labels.ensures.exact.0 c.if-not-has_labels.false)

pub have_labels-returns : goal.have_labels-returns
have_labels-returns t c = record {
  exact = (
    λ e. all_passed (λ part. All IsLabel (labels_of part)) c.args.parts.now c.loop-part.part-index
        c.loop-part-test.false c.loop-part.invariant,
    λ h. refl,
  );
}

pub fields_have_labels-loop-field-preserved : goal.fields_have_labels-loop-field-preserved
fields_have_labels-loop-field-preserved t c =
    all_more c.args.fields.now c.loop-field.field-index c.field-item.result c.loop-field-test.true c.field-item.is
    (λ field. IsLabel field.label × All IsLabel (labels_of field.ty)) c.loop-field.invariant (
      subst IsLabel c.as_slice.ensures.value (c.is_label.ensures.exact.0 c.if-not-is_label.false),
      c.has_labels.ensures.exact.0 c.if-not-has_labels.false,
    )

pub fields_have_labels-returns : goal.fields_have_labels-returns
fields_have_labels-returns t c = record {
  exact = (
    λ e. all_passed (λ field. IsLabel field.label × All IsLabel (labels_of field.ty)) c.args.fields.now
        c.loop-field.field-index c.loop-field-test.false c.loop-field.invariant,
    λ h. refl,
  );
}
