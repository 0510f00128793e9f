use Rattle.std.proofs.Common.{not, bytes_eq, sym, ap, ◌∙◌}
use Rattle.type_core.specs.declared.ty.Field.{Field}
use Rattle.elab_types.specs.Finding.{place_of as first_place}
use Rattle.elab_rules.specs.Types.{typed}
use Rattle.elab_types.specs.Sources.{variable}
use Rattle.elab_rules.specs.Views.{state_of, variables_of}
use Rattle.elab_types.specs.Views.{texts}
use Rattle.elab_types.proofs.FirstPlaces.{placed_more}
use Rattle.elab_rules.proofs.Outcomes.{gives_same, handed_on}
use Rattle.elab_rules.proofs.PlacedUnits.{any_ok}
use Rattle.elab_types.proofs.Fields.{fresh_label, is_new_by}
use Rattle.elab_phrases.proofs.Records.{fields_more, fields_twice}
use Rattle.elab_phrases.proofs.SettledParts.{arrows_settled, ordered_settled, tuple_settled}
use Rattle.elab_phrases.proofs.Sites.{place_mentions}
use Rattle.elab_phrases.proofs.Staying.{mentions_twice}
use Rattle.elab_phrases.proofs.TypedLevels.{arrows_are, fields_are, tuple_is}
use Rattle.elab_phrases.proofs.TypesInTurn.{all_fail, all_more, apply_gives, field_fails, fields_stay_settled, limited_settled, mentions_on, there, types_settled, variable_settled}
use Rattle.elab_phrases.proofs.typing.+typing.Goals as goal

pub all_fields-returns-then-has : goal.all_fields-returns-then-has
all_fields-returns-then-has t c =
    let label = c.text-text.result.now in
    let fields = c.loop-part.fields in
    let old = is_new_by label fields _ _ c.has.ensures.value (c.loop-part.invariant.labels label) ∙ ap not c.if-has.true in
    record {
      outcome = fields_twice _ fields _ _ _ _ _ label _ c.loop-part-test.true c.part-item.is c.text-text.ensures.value old c.loop-part.invariant.typed;
      settled = tt;
      sees = tt;
      grew = tt;
    }

pub all_fields-returns-in_err-ty-clause-outcome : goal.all_fields-returns-in_err-ty-clause-outcome
all_fields-returns-in_err-ty-clause-outcome t c =
    let label = c.text-text.result.now in
    let fields = c.loop-part.fields in
    let new = is_new_by label fields _ _ c.has.ensures.value (c.loop-part.invariant.labels label) ∙ ap not c.if-has.false in
    let now = place_mentions _ _ c.args.place.now c.loop-part.invariant.mentions in
    field_fails _ _ fields _ _ _ _ _ _ label _ _ _ now c.loop-part-test.true c.part-item.is c.text-text.ensures.value new c.loop-part.invariant.typed (handed_on _ _ c.from_residual-in_err-ty.ensures.1) c.in_err-ty.ensures.outcome

pub all_fields-loop-part-preserved : goal.all_fields-loop-part-preserved
all_fields-loop-part-preserved t c =
    let text = c.text-text.result.now in
    let fields = c.loop-part.fields in
    let new = is_new_by text fields _ _ c.has.ensures.value (c.loop-part.invariant.labels text) ∙ ap not c.if-has.false in
    let now = place_mentions _ _ c.args.place.now c.loop-part.invariant.mentions in
    record {
      typed = fields_more _ fields _ _ _ _ _ _ _ text _ _ _ c.loop-part-test.true c.part-item.is c.text-text.ensures.value new (there (λ at. typed c.part-item.result.ty at (state_of c.loop-part.progress)) _ _ _ now c.in_ok-ty.ensures.outcome) c.in_ok-label.ensures.value c.in_ok-push.ensures.pushed c.loop-part.invariant.typed;
      labels = λ label. placed_more (λ (field : Field). bytes_eq label field.label) fields (record { label = c.in_ok-label.label; ty = c.in_ok-ty.ty }) (bytes_eq label text) _ _ _ (ap (bytes_eq label) c.in_ok-label.ensures.value) (λ same. fresh_label label text fields same new) c.len.ensures.value (c.loop-part.invariant.labels label) (c.in_ok-insert.ensures.inserted label) ∙ ap (first_place (λ (field : Field). bytes_eq label field.label)) (sym c.in_ok-push.ensures.pushed);
      settled = fields_stay_settled _ _ fields _ (record { label = c.in_ok-label.label; ty = c.in_ok-ty.ty }) c.in_ok-ty.ensures.grew c.loop-part.invariant.settled c.in_ok-ty.ensures.settled c.in_ok-push.ensures.pushed;
      sees = c.in_ok-ty.ensures.sees;
      mentions = mentions_twice _ _ _ c.loop-part.invariant.mentions c.in_ok-ty.ensures.grew;
    }

pub type_of-returns-in_ok-fields-in-Fields : goal.type_of-returns-in_ok-fields-in-Fields
type_of-returns-in_ok-fields-in-Fields t c = record {
  outcome = gives_same _ _ _ _ (fields_are _ _ _ _ _ _ _ c.in-Fields.is c.as_slice.ensures.value c.in_ok-fields-in-Fields.ensures.outcome) (c.record.ensures.outcome _);
  settled = limited_settled _ _ _ _ _ (ordered_settled _ _ c.in_ok-fields-in-Fields.ensures.settled) (c.record.ensures.outcome (state_of c.args.progress.now));
  sees = any_ok _ c.in_ok-fields-in-Fields.ensures.sees;
  grew = any_ok _ c.in_ok-fields-in-Fields.ensures.grew;
}

pub type_of-returns-in_ok-parts-in-Tuple : goal.type_of-returns-in_ok-parts-in-Tuple
type_of-returns-in_ok-parts-in-Tuple t c = record {
  outcome = gives_same _ _ _ _ (tuple_is _ _ _ _ _ _ _ c.in-Tuple.is c.as_slice-in-Tuple.ensures.value c.in_ok-parts-in-Tuple.ensures.outcome) (c.tuple.ensures.outcome _);
  settled = limited_settled _ _ _ _ _ (tuple_settled _ _ c.in_ok-parts-in-Tuple.ensures.settled) (c.tuple.ensures.outcome (state_of c.args.progress.now));
  sees = any_ok _ c.in_ok-parts-in-Tuple.ensures.sees;
  grew = any_ok _ c.in_ok-parts-in-Tuple.ensures.grew;
}

pub type_of-returns-in_ok-sides-in-Arrows : goal.type_of-returns-in_ok-sides-in-Arrows
type_of-returns-in_ok-sides-in-Arrows t c = record {
  outcome = gives_same _ _ _ _ (arrows_are _ _ _ _ _ _ _ c.in-Arrows.is c.as_slice-in-Arrows.ensures.value c.in_ok-sides-in-Arrows.ensures.outcome) (c.arrows.ensures.outcome _);
  settled = limited_settled _ _ _ _ _ (arrows_settled _ _ c.in_ok-sides-in-Arrows.ensures.settled) (c.arrows.ensures.outcome (state_of c.args.progress.now));
  sees = any_ok _ c.in_ok-sides-in-Arrows.ensures.sees;
  grew = any_ok _ c.in_ok-sides-in-Arrows.ensures.grew;
}

pub type_of-returns-in-Var-clause-settled : goal.type_of-returns-in-Var-clause-settled
type_of-returns-in-Var-clause-settled t c =
    let place = c.args.place.now in
    variable_settled _ (variables_of place.variables) (variable (texts place.site.source) c.in-Var.token) c.in-Var.token _ c.variable_type.ensures.outcome

pub type_of-returns-in_ok-arguments-in-Apply-clause-outcome : goal.type_of-returns-in_ok-arguments-in-Apply-clause-outcome
type_of-returns-in_ok-arguments-in-Apply-clause-outcome t c =
    apply_gives _ _ _ _ _ _ _ _ _ _ _ _ c.in-Apply.is c.as_slice-in-Apply.ensures.value c.as_slice-in-Apply-2.ensures.value (place_mentions _ _ c.args.place.now c.in_ok-arguments-in-Apply.ensures.grew) c.in_ok-arguments-in-Apply.ensures.outcome c.constructed_all.ensures.outcome

pub type_of-returns-in_ok-arguments-in-Apply-clause-grew : goal.type_of-returns-in_ok-arguments-in-Apply-clause-grew
type_of-returns-in_ok-arguments-in-Apply-clause-grew t c = mentions_on _ _ _ _ c.in_ok-arguments-in-Apply.ensures.grew c.constructed_all.ensures.grew

pub all_types-returns-in_err-type_of-clause-outcome : goal.all_types-returns-in_err-type_of-clause-outcome
all_types-returns-in_err-type_of-clause-outcome t c =
    all_fail _ _ _ _ _ _ _ _ _ _ _ _ (place_mentions _ _ c.args.place.now c.loop-part.invariant.mentions) c.loop-part-test.true c.part-item.is (handed_on _ _ c.from_residual.ensures.1) c.loop-part.invariant.typed c.in_err-type_of.ensures.outcome

pub all_types-loop-part-preserved : goal.all_types-loop-part-preserved
all_types-loop-part-preserved t c = record {
  typed =
      all_more _ _ _ _ _ _ _ _ _ _ _ _ (place_mentions _ _ c.args.place.now c.loop-part.invariant.mentions) c.loop-part-test.true c.part-item.is c.in_ok-type_of.ensures.outcome c.in_ok-push.ensures.pushed
      c.loop-part.invariant.typed;
  settled = types_settled _ _ _ _ _ c.in_ok-type_of.ensures.grew c.loop-part.invariant.settled c.in_ok-type_of.ensures.settled c.in_ok-push.ensures.pushed;
  sees = c.in_ok-type_of.ensures.sees;
  mentions = mentions_twice _ _ _ c.loop-part.invariant.mentions c.in_ok-type_of.ensures.grew;
}
