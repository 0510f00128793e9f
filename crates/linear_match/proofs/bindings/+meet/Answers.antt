use Rattle.std.proofs.Common.{sym, ap, ap₂, ◌∙◌}
use Rattle.std.proofs.Math.Seq.{take-length}
use Rattle.std.proofs.lemmas.Result.{IfOk-weaker}
use Rattle.type_core.specs.declared.ty.Ty.TheVariants as ty
use Rattle.linear_match.specs.Meetings.{fields_none, meet_none}
use Rattle.linear_match.proofs.MeetAll.{FieldsMeet, TypesMeet, all_fields, all_same_length, all_types, before_then, each_nowhere, each_on, fields_nowhere, fields_on, labels_apart, labels_same, leads_iff, no_label, none_yet}
use Rattle.linear_match.proofs.TypeMeets.{con_of_parts, leads_arrow, leads_variable, left_nowhere, name_eq, rec_of_fields, right_nowhere, tup_of_parts}
use Rattle.linear_match.proofs.bindings.+meet.Goals as goal

pub meet_each-returns-then-parts-others-clause-none : goal.meet_each-returns-then-parts-others-clause-none
meet_each-returns-then-parts-others-clause-none t c =
    λ e ms each good. c.if-parts-others.true (all_same_length TypesMeet (all_types each))

pub meet_fields-returns-then-fields-others-clause-none : goal.meet_fields-returns-then-fields-others-clause-none
meet_fields-returns-then-fields-others-clause-none t c =
    λ e ms each good. c.if-fields-others.true (all_same_length FieldsMeet (all_fields each))

pub meet_type-returns-in-Var-default-clause-more : goal.meet_type-returns-in-Var-default-clause-more
meet_type-returns-in-Var-default-clause-more t c =
    IfOk-weaker c.meet_variable.result _ _
    (λ done f e. leads_variable c.args.p.now c.args.t.now c.in-Var-default.v c.in-Var-default.is-0 (f e))
    c.meet_variable.ensures.more

pub meet_each-loop-i-init : goal.meet_each-loop-i-init
meet_each-loop-i-init t c =
    record { before = take-length c.args.met.now; leads = none_yet c.args.met.now meet_none c.requires.good }

pub meet_each-returns-then-not-branch-clause-none : goal.meet_each-returns-then-not-branch-clause-none
meet_each-returns-then-not-branch-clause-none t c = λ e.
    each_nowhere c.args.met.now c.loop-i.met c.args.parts.now c.args.others.now c.loop-i.i c.index-parts-i.result
    c.index-others-i.result c.loop-i-test.true c.if-parts-others.false c.index-parts-i.is c.index-others-i.is
    c.loop-i.invariant.leads (c.in_ok-meet_type.ensures.none c.if-not-branch.true)

pub meet_each-loop-i-preserved : goal.meet_each-loop-i-preserved
meet_each-loop-i-preserved t c = record {
  before = before_then c.args.met.now c.loop-i.met c.meet_type.new.met c.loop-i.invariant.before
      c.in_ok-meet_type.ensures.grown;
  leads = each_on c.args.met.now c.loop-i.met c.args.parts.now c.args.others.now c.loop-i.i c.index-parts-i.result
      c.index-others-i.result c.loop-i-test.true c.if-parts-others.false c.index-parts-i.is c.index-others-i.is
      c.loop-i.invariant.leads (c.in_ok-meet_type.ensures.more c.if-not-branch.false);
}

pub meet_fields-loop-i-init : goal.meet_fields-loop-i-init
meet_fields-loop-i-init t c =
    record { before = take-length c.args.met.now; leads = none_yet c.args.met.now fields_none c.requires.good }

pub meet_fields-returns-then-ne-clause-none : goal.meet_fields-returns-then-ne-clause-none
meet_fields-returns-then-ne-clause-none t c = λ e.
    no_label c.args.met.now c.loop-i.met c.args.fields.now c.args.others.now c.loop-i.i c.index-fields-i.result
    c.index-others-i.result c.loop-i-test.true c.if-fields-others.false c.index-fields-i.is c.index-others-i.is
    c.loop-i.invariant.leads
    (labels_apart c.index-fields-i.result.label c.index-others-i.result.label _ _ c.ne.result c.as_slice.ensures.value
    c.as_slice-in-loop-i.ensures.value c.ne.ensures c.if-ne.true)

pub meet_fields-returns-then-not-branch-clause-none : goal.meet_fields-returns-then-not-branch-clause-none
meet_fields-returns-then-not-branch-clause-none t c = λ e.
    fields_nowhere c.args.met.now c.loop-i.met c.args.fields.now c.args.others.now c.loop-i.i c.index-fields-i.result
    c.index-others-i.result c.loop-i-test.true c.if-fields-others.false c.index-fields-i.is c.index-others-i.is
    c.loop-i.invariant.leads
    (c.in_ok-meet_type.ensures.none c.if-not-branch.true)

pub meet_fields-loop-i-preserved : goal.meet_fields-loop-i-preserved
meet_fields-loop-i-preserved t c = record {
  before = before_then c.args.met.now c.loop-i.met c.meet_type.new.met c.loop-i.invariant.before
      c.in_ok-meet_type.ensures.grown;
  leads = fields_on c.args.met.now c.loop-i.met c.args.fields.now c.args.others.now c.loop-i.i c.index-fields-i.result
      c.index-others-i.result c.loop-i-test.true c.if-fields-others.false c.index-fields-i.is c.index-others-i.is
      c.loop-i.invariant.leads
      (labels_same c.index-fields-i.result.label c.index-others-i.result.label _ _ c.ne.result
      c.as_slice.ensures.value c.as_slice-in-loop-i.ensures.value c.ne.ensures c.if-ne.false)
      (c.in_ok-meet_type.ensures.more c.if-not-branch.false);
}

pub meet_type-returns-then-not-branch-clause-none : goal.meet_type-returns-then-not-branch-clause-none
meet_type-returns-then-not-branch-clause-none t c = λ e.
    left_nowhere c.args.p.now c.args.t.now _ _ _ _
    (c.in-Arrow-Arrow.is-0 ∙ ap (λ a. ty.Arrow a c.in-Arrow-Arrow.to) (sym c.get.ensures.value))
    (c.in-Arrow-Arrow.is-1 ∙ ap (λ a. ty.Arrow a c.in-Arrow-Arrow.other_to)
    (sym c.get-in-Arrow-Arrow.ensures.value)) c.args.met.now
    (c.in_ok-meet_type-in-Arrow-Arrow.ensures.none c.if-not-branch.true)

pub meet_type-returns-else-name-other-clause-more : goal.meet_type-returns-else-name-other-clause-more
meet_type-returns-else-name-other-clause-more t c = IfOk-weaker c.meet_each.result _ _
    (λ done f e. leads_iff (con_of_parts c.args.p.now c.args.t.now c.in-Con-Con.name c.in-Con-Con.other _ _
    (c.in-Con-Con.is-0 ∙ ap (ty.Con c.in-Con-Con.name) (sym c.as_slice.ensures.value))
    (c.in-Con-Con.is-1 ∙ ap (ty.Con c.in-Con-Con.other) (sym c.as_slice-in-Con-Con.ensures.value))
    (name_eq c.in-Con-Con.name c.in-Con-Con.other c.if-name-other.false)) (f e)) c.meet_each.ensures.more

pub meet_type-returns-in-Rec-Rec-clause-more : goal.meet_type-returns-in-Rec-Rec-clause-more
meet_type-returns-in-Rec-Rec-clause-more t c = IfOk-weaker c.meet_fields.result _ _
    (λ done f e. leads_iff (rec_of_fields c.args.p.now c.args.t.now _ _
    (c.in-Rec-Rec.is-0 ∙ ap ty.Rec (sym c.as_slice-in-Rec-Rec.ensures.value))
    (c.in-Rec-Rec.is-1 ∙ ap ty.Rec (sym c.as_slice-in-Rec-Rec-2.ensures.value))) (f e)) c.meet_fields.ensures.more

pub meet_type-returns-in-Tup-Tup-clause-more : goal.meet_type-returns-in-Tup-Tup-clause-more
meet_type-returns-in-Tup-Tup-clause-more t c = IfOk-weaker c.meet_each-in-Tup-Tup.result _ _
    (λ done f e. leads_iff (tup_of_parts c.args.p.now c.args.t.now _ _
    (c.in-Tup-Tup.is-0 ∙ ap ty.Tup (sym c.as_slice-in-Tup-Tup.ensures.value))
    (c.in-Tup-Tup.is-1 ∙ ap ty.Tup (sym c.as_slice-in-Tup-Tup-2.ensures.value))) (f e))
    c.meet_each-in-Tup-Tup.ensures.more

pub meet_type-returns-else-not-branch-clause-more : goal.meet_type-returns-else-not-branch-clause-more
meet_type-returns-else-not-branch-clause-more t c = IfOk-weaker c.meet_type-in-Arrow-Arrow.result _ _
    (λ done f e. leads_arrow c.args.p.now c.args.t.now _ _ _ _
    (c.in-Arrow-Arrow.is-0 ∙ ap₂ ty.Arrow (sym c.get.ensures.value) (sym c.get-in-Arrow-Arrow-2.ensures.value))
    (c.in-Arrow-Arrow.is-1 ∙ ap₂ ty.Arrow (sym c.get-in-Arrow-Arrow.ensures.value)
    (sym c.get-in-Arrow-Arrow-3.ensures.value))
    (c.in_ok-meet_type-in-Arrow-Arrow.ensures.more c.if-not-branch.false) (f e))
    c.meet_type-in-Arrow-Arrow.ensures.more

pub meet_type-returns-else-not-branch-clause-none : goal.meet_type-returns-else-not-branch-clause-none
meet_type-returns-else-not-branch-clause-none t c = IfOk-weaker c.meet_type-in-Arrow-Arrow.result _ _
    (λ done f e. right_nowhere c.args.p.now c.args.t.now _ _ _ _
    (c.in-Arrow-Arrow.is-0 ∙ ap₂ ty.Arrow (sym c.get.ensures.value) (sym c.get-in-Arrow-Arrow-2.ensures.value))
    (c.in-Arrow-Arrow.is-1 ∙ ap₂ ty.Arrow (sym c.get-in-Arrow-Arrow.ensures.value)
    (sym c.get-in-Arrow-Arrow-3.ensures.value))
    (c.in_ok-meet_type-in-Arrow-Arrow.ensures.more c.if-not-branch.false) (f e))
    c.meet_type-in-Arrow-Arrow.ensures.none
