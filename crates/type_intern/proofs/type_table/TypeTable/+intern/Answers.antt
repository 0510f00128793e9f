use Rattle.std.proofs.Common.{◌≡◌, Some, IfOk, slice_get, sym, ap, ap₂, ◌∙◌, subst}
use Rattle.std.proofs.lemmas.Option.{slice_get_within}
use Rattle.type_core.specs.declared.ty.Ty.{Ty}
use Rattle.type_core.specs.declared.ty.Ty.TheVariants as ty
use Rattle.type_intern.proofs.Storing.{stored_below, stored_types, stored_more, fields_below, fields_stored, fields_more, read_at}
use Rattle.type_intern.proofs.Places.{grows_trans, stays}
use Rattle.type_intern.proofs.type_table.TypeTable.+intern.Goals as goal

pub intern-add-requires-in-Con : goal.intern-add-requires-in-Con
intern-add-requires-in-Con t c = record {
  parts = stored_below c.intern_all.new.self c.in_ok-ids-in-Con.ids _ c.in_ok-ids-in-Con.ensures.value;
}

pub intern-add-requires-in-Rec : goal.intern-add-requires-in-Rec
intern-add-requires-in-Rec t c = record {
  parts = fields_below c.intern_fields.new.self c.in_ok-ids-in-Rec.ids _ c.in_ok-ids-in-Rec.ensures.value;
}

pub intern-add-requires-in-Tup : goal.intern-add-requires-in-Tup
intern-add-requires-in-Tup t c = record {
  parts = stored_below c.intern_all-in-Tup.new.self c.in_ok-ids-in-Tup.ids _ c.in_ok-ids-in-Tup.ensures.value;
}

pub intern-add-requires-in-Arrow : goal.intern-add-requires-in-Arrow
intern-add-requires-in-Arrow t c =
    let from = stays _ _ c.in_ok-to-in-Arrow.ensures.keeps _ _ c.in_ok-from-in-Arrow.ensures.value in
    record { parts = (slice_get_within _ _ _ from, (slice_get_within _ _ _ c.in_ok-to-in-Arrow.ensures.value, tt)) }

pub intern-returns-in_ok-ids-in-Con-clause-value : goal.intern-returns-in_ok-ids-in-Con-clause-value
intern-returns-in_ok-ids-in-Con-clause-value t c =
    let is = ap (ty.Con c.in-Con.name) (stored_types c.intern_all.new.self c.in_ok-ids-in-Con.ids _
    c.in_ok-ids-in-Con.ensures.value ∙ c.as_slice.ensures.value) ∙ sym c.in-Con.is in
    subst (λ (u : Ty). IfOk c.add-in-Con.result (λ id. slice_get c.add-in-Con.new.self id.0 ≡ Some u)) is
    c.add-in-Con.ensures.value

pub intern-returns-in_ok-ids-in-Rec-clause-value : goal.intern-returns-in_ok-ids-in-Rec-clause-value
intern-returns-in_ok-ids-in-Rec-clause-value t c =
    let is = ap ty.Rec (fields_stored c.intern_fields.new.self c.in_ok-ids-in-Rec.ids _ c.in_ok-ids-in-Rec.ensures.value
    ∙ c.as_slice-in-Rec.ensures.value) ∙ sym c.in-Rec.is in
    subst (λ (u : Ty). IfOk c.add-in-Rec.result (λ id. slice_get c.add-in-Rec.new.self id.0 ≡ Some u)) is
    c.add-in-Rec.ensures.value

pub intern-returns-in_ok-ids-in-Tup-clause-value : goal.intern-returns-in_ok-ids-in-Tup-clause-value
intern-returns-in_ok-ids-in-Tup-clause-value t c =
    let is = ap ty.Tup (stored_types c.intern_all-in-Tup.new.self c.in_ok-ids-in-Tup.ids _
    c.in_ok-ids-in-Tup.ensures.value ∙ c.as_slice-in-Tup.ensures.value) ∙ sym c.in-Tup.is in
    subst (λ (u : Ty). IfOk c.add-in-Tup.result (λ id. slice_get c.add-in-Tup.new.self id.0 ≡ Some u)) is
    c.add-in-Tup.ensures.value

pub intern-returns-in_ok-to-in-Arrow-clause-value : goal.intern-returns-in_ok-to-in-Arrow-clause-value
intern-returns-in_ok-to-in-Arrow-clause-value t c =
    let from = stays _ _ c.in_ok-to-in-Arrow.ensures.keeps _ _ c.in_ok-from-in-Arrow.ensures.value in
    let is = ap₂ ty.Arrow (read_at c.intern-in-Arrow.new.self c.in_ok-from-in-Arrow.from _ from ∙ c.get.ensures.value)
    (read_at c.intern-in-Arrow.new.self c.in_ok-to-in-Arrow.to _ c.in_ok-to-in-Arrow.ensures.value ∙
    c.get-in-Arrow.ensures.value) ∙ sym c.in-Arrow.is in
    subst (λ (u : Ty). IfOk c.add-in-Arrow.result (λ id. slice_get c.add-in-Arrow.new.self id.0 ≡ Some u)) is
    c.add-in-Arrow.ensures.value

pub intern_all-loop-part-preserved : goal.intern_all-loop-part-preserved
intern_all-loop-part-preserved t c = record {
  keeps = grows_trans _ _ _ c.loop-part.invariant.keeps c.in_ok-intern.ensures.keeps;
  stored = stored_more c.loop-part.self c.intern.new.self c.loop-part.ids c.push.new.self c.args.parts.now
      c.loop-part.part-index c.in_ok-intern.field-0 c.part-item.result c.in_ok-intern.ensures.keeps
      c.loop-part.invariant.stored c.loop-part-test.true c.part-item.is c.in_ok-intern.ensures.value
      c.in_ok-push.ensures.pushed;
}

pub intern_fields-loop-field-preserved : goal.intern_fields-loop-field-preserved
intern_fields-loop-field-preserved t c = record {
  keeps = grows_trans _ _ _ c.loop-field.invariant.keeps c.in_ok-ty.ensures.keeps;
  stored = fields_more c.loop-field.self c.intern.new.self c.loop-field.ids c.push.new.self c.args.fields.now
      c.loop-field.field-index (record { label = c.in_ok-label.label; ty = c.in_ok-ty.ty }) c.field-item.result
      c.in_ok-ty.ensures.keeps c.loop-field.invariant.stored c.loop-field-test.true c.field-item.is
      (c.in_ok-label.ensures.value ∙ c.as_slice.ensures.value) c.in_ok-ty.ensures.value c.in_ok-push.ensures.pushed;
}
