use Rattle.std.proofs.Common.{not, bytes_eq, sym, ap, ◌∙◌}
use Rattle.type_core.specs.declared.ty.Field.{Field}
use Rattle.elab_types.specs.Finding.{place_of as first_place}
use Rattle.elab_types.proofs.Fields.{fresh_label, is_new_by}
use Rattle.elab_types.proofs.FirstPlaces.{placed_more}
use Rattle.query_parser.proofs.Giving.{gives_same, handed_on}
use Rattle.query_parser.proofs.Levels.{arrows_are, fields_are, fields_fail, fields_more, fields_twice, tuple_is}
use Rattle.query_parser.proofs.typing.+typing.Goals as goal

pub all_fields-returns-then-has : goal.all_fields-returns-then-has
all_fields-returns-then-has t c = record {
  outcome =
      let label = c.text-text.result.now in
      let fields = c.loop-part.fields in
      let old = is_new_by label fields _ _ c.has.ensures.value (c.loop-part.invariant.labels label) ∙ ap not c.if-has.true in
      fields_twice _ fields _ _ _ _ label _ c.loop-part-test.true c.part-item.is c.text-text.ensures.value c.loop-part.invariant.typed old;
}

pub all_fields-returns-in_err-ty : goal.all_fields-returns-in_err-ty
all_fields-returns-in_err-ty t c = record {
  outcome =
      let label = c.text-text.result.now in
      let fields = c.loop-part.fields in
      let new = is_new_by label fields _ _ c.has.ensures.value (c.loop-part.invariant.labels label) ∙ ap not c.if-has.false in
      fields_fail _ fields _ _ _ _ label _ c.loop-part-test.true c.part-item.is c.text-text.ensures.value c.loop-part.invariant.typed
      _ _ new (handed_on _ _ c.from_residual-in_err-ty.ensures.1) c.in_err-ty.ensures.outcome;
}

pub all_fields-loop-part-preserved : goal.all_fields-loop-part-preserved
all_fields-loop-part-preserved t c =
    let text = c.text-text.result.now in
    let fields = c.loop-part.fields in
    let new = is_new_by text fields _ _ c.has.ensures.value (c.loop-part.invariant.labels text) ∙ ap not c.if-has.false in
    record {
      typed = fields_more _ fields _ _ _ _ text _ c.loop-part-test.true c.part-item.is c.text-text.ensures.value c.loop-part.invariant.typed
          _ _ _ new c.in_ok-ty.ensures.outcome c.in_ok-label.ensures.value c.in_ok-push.ensures.pushed;
      labels = λ label. placed_more (λ (field : Field). bytes_eq label field.label) fields (record { label = c.in_ok-label.label; ty = c.in_ok-ty.ty }) (bytes_eq label text) _ _ _ (ap (bytes_eq label) c.in_ok-label.ensures.value) (λ same. fresh_label label text fields same new) c.len.ensures.value (c.loop-part.invariant.labels label) (c.in_ok-insert.ensures.inserted label) ∙ ap (first_place (λ (field : Field). bytes_eq label field.label)) (sym c.in_ok-push.ensures.pushed);
    }

pub type_of-returns-in_ok-fields-in-Fields : goal.type_of-returns-in_ok-fields-in-Fields
type_of-returns-in_ok-fields-in-Fields t c = record {
  outcome = gives_same _ _ _ (fields_are _ _ _ _ _ c.in-Fields.is c.as_slice.ensures.value c.in_ok-fields-in-Fields.ensures.outcome) c.record.ensures.outcome;
}

pub type_of-returns-in_ok-parts-in-Tuple : goal.type_of-returns-in_ok-parts-in-Tuple
type_of-returns-in_ok-parts-in-Tuple t c = record {
  outcome = gives_same _ _ _ (tuple_is _ _ _ _ _ c.in-Tuple.is c.as_slice-in-Tuple.ensures.value c.in_ok-parts-in-Tuple.ensures.outcome) c.tuple.ensures.outcome;
}

pub type_of-returns-in_ok-sides-in-Arrows : goal.type_of-returns-in_ok-sides-in-Arrows
type_of-returns-in_ok-sides-in-Arrows t c = record {
  outcome = gives_same _ _ _ (arrows_are _ _ _ _ _ c.in-Arrows.is c.as_slice-in-Arrows.ensures.value c.in_ok-sides-in-Arrows.ensures.outcome) c.arrows.ensures.outcome;
}
