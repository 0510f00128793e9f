use Rattle.std.proofs.Common.{◌≡◌, ℕ, ◌+◌, ◌≤◌, Some, None, drop, take, map, length, slice_get, refl, sym, ap, ◌∙◌, subst, arith, IfSome}
use Rattle.std.proofs.lemmas.List.{length-map, take_all}
use Rattle.type_core.specs.declared.ty.Ty.{Ty}
use Rattle.type_core.specs.declared.ty.Field.{Field}
use Rattle.type_core.specs.Lists.{sum_of}
use Rattle.type_core.specs.Types.{IsOver, is_over}
use Rattle.elab_env.specs.Meaning.{CanTake, IsFollowed, body_of, name_weight, weight_at, weighed}
use Rattle.elab_env.specs.Realizations.{resolved}
use Rattle.elab_env.specs.Sized.{listed, saturated_size}
use Rattle.elab_env.proofs.Counted.{counted_application, counted_arrow, counted_more, counted_name, counted_rec, counted_tup, counted_var, done_later, sizes_done}
use Rattle.elab_env.proofs.Walked.{application_weighs, arguments_are_over, arguments_weigh, components_are_over, components_weigh, fields_are_over, fields_weigh, last_weighs, part_passes, part_weighs, sides_are_over, sides_weigh, takes_done, walked_con, weighs_something}
use Rattle.elab_env.proofs.sizes.+size.Goals as goal

pub total_size-size_from-requires : goal.total_size-size_from-requires
total_size-size_from-requires t c =
    let w : Ty → ℕ = weighed (name_weight (drop c.args.from c.args.table.now.realizations)) in
    let h : w c.part-item.result ≤ sum_of (map w c.args.parts.now) = part_weighs w c.args.parts.now c.loop-part.part-index c.part-item.result c.loop-part-test.true c.part-item.is in
    (omega (arith, h, c.decreases), part_passes (is_over c.args.table.now.names) c.args.parts.now c.loop-part.part-index c.part-item.result c.requires.over c.loop-part-test.true c.part-item.is)

pub total_field_size-size_from-requires : goal.total_field_size-size_from-requires
total_field_size-size_from-requires t c =
    let w : Field → ℕ = λ field. weighed (name_weight (drop c.args.from c.args.table.now.realizations)) field.ty in
    let h : w c.field-item.result ≤ sum_of (map w c.args.fields.now) = part_weighs w c.args.fields.now c.loop-field.field-index c.field-item.result c.loop-field-test.true c.field-item.is in
    (omega (arith, h, c.decreases), part_passes (λ field. is_over c.args.table.now.names field.ty) c.args.fields.now c.loop-field.field-index c.field-item.result c.requires.over c.loop-field-test.true c.field-item.is)

pub applied_size-size_from-size-requires : goal.applied_size-size_from-size-requires
applied_size-size_from-size-requires t c =
    let w : Ty → ℕ = weighed (name_weight (drop c.args.from c.args.table.now.realizations)) in
    let more = last_weighs w c.args.arguments.now c.args.count c.index-arguments-count.result c.if-count-eq0.false c.requires.within c.index-arguments-count.is in
    (omega (arith, more, c.decreases), part_passes (is_over c.args.table.now.names) c.args.arguments.now _ c.index-arguments-count.result c.requires.over (omega (arith, c.if-count-eq0.false, c.requires.within)) c.index-arguments-count.is)

pub applied_size-applied_size-requires : goal.applied_size-applied_size-requires
applied_size-applied_size-requires t c =
    let w : Ty → ℕ = weighed (name_weight (drop c.args.from c.args.table.now.realizations)) in
    let more = last_weighs w c.args.arguments.now c.args.count c.index-arguments-count.result c.if-count-eq0.false c.requires.within c.index-arguments-count.is in
    let some = weighs_something (name_weight (drop c.args.from c.args.table.now.realizations)) c.index-arguments-count.result in
    (omega (arith, more, some, c.decreases), (omega (arith, c.requires.within), (c.requires.over, (c.requires.place, c.requires.body))))

pub applied_size-returns : goal.applied_size-returns
applied_size-returns t c =
    let rs = c.args.table.now.realizations in
    record {
      value = c.applied_size.ensures.value ∙ ap (λ ns. saturated_size ns (drop (c.args.place + 1) rs) (body_of (slice_get rs c.args.place)))
          (done_later (saturated_size (listed c.args.sizes.now) (drop c.args.from rs)) c.args.arguments.now c.args.count c.index-arguments-count.result c.size_from-size.result c.args.done c.if-count-eq0.false c.requires.within c.index-arguments-count.is c.size_from-size.ensures.value);
    }

pub size_from-total_size-requires : goal.size_from-total_size-requires
size_from-total_size-requires t c = (
  omega (arith, arguments_weigh (name_weight (drop c.args.from c.args.table.now.realizations)) c.args.t.now c.in-Con.name c.in-Con.arguments c.as_slice-arguments.result.now c.in-Con.is c.as_slice-arguments.ensures.value, c.decreases),
  arguments_are_over c.args.table.now.names c.args.t.now c.requires.over c.in-Con.name c.in-Con.arguments c.as_slice-arguments.result.now c.in-Con.is c.as_slice-arguments.ensures.value,
)

pub size_from-applied_size-requires : goal.size_from-applied_size-requires
size_from-applied_size-requires t c =
    let rs = c.args.table.now.realizations in
    let can : CanTake c.args.table.now.names rs c.in-Con.name c.in-Some.place = subst (λ o. IfSome o (CanTake c.args.table.now.names rs c.in-Con.name)) c.in-Some.is c.follow-place.ensures.followed.can_take in
    let weight : weight_at rs (Some c.in-Some.place) ≤ name_weight (drop c.args.from rs) c.in-Con.name.0 = subst (λ o. weight_at rs o ≤ name_weight (drop c.args.from rs) c.in-Con.name.0) c.in-Some.is c.follow-place.ensures.followed.weighs in
    let w : Ty → ℕ = weighed (name_weight (drop c.args.from rs)) in
    let all : sum_of (map w (take (length c.as_slice-arguments.result.now) c.as_slice-arguments.result.now)) ≡ sum_of (map w c.as_slice-arguments.result.now) = ap (λ ts. sum_of (map w ts)) (take_all (length c.as_slice-arguments.result.now) c.as_slice-arguments.result.now (omega arith)) in (
      omega (arith, application_weighs (name_weight (drop c.args.from rs)) c.args.t.now c.in-Con.name c.in-Con.arguments c.as_slice-arguments.result.now c.in-Con.is c.as_slice-arguments.ensures.value, weight, all, c.decreases),
      (
        omega arith,
        (
          arguments_are_over c.args.table.now.names c.args.t.now c.requires.over c.in-Con.name c.in-Con.arguments c.as_slice-arguments.result.now c.in-Con.is c.as_slice-arguments.ensures.value,
          (can.within, can.over),
        ),
      ),
    )

pub size_from-total_field_size-requires : goal.size_from-total_field_size-requires
size_from-total_field_size-requires t c = (
  omega (arith, fields_weigh (name_weight (drop c.args.from c.args.table.now.realizations)) c.args.t.now c.in-Rec.fields c.as_slice.result.now c.in-Rec.is c.as_slice.ensures.value, c.decreases),
  fields_are_over c.args.table.now.names c.args.t.now c.requires.over c.in-Rec.fields c.as_slice.result.now c.in-Rec.is c.as_slice.ensures.value,
)

pub size_from-total_size-requires-in-Tup : goal.size_from-total_size-requires-in-Tup
size_from-total_size-requires-in-Tup t c = (
  omega (arith, components_weigh (name_weight (drop c.args.from c.args.table.now.realizations)) c.args.t.now c.in-Tup.components c.as_slice-in-Tup.result.now c.in-Tup.is c.as_slice-in-Tup.ensures.value, c.decreases),
  components_are_over c.args.table.now.names c.args.t.now c.requires.over c.in-Tup.components c.as_slice-in-Tup.result.now c.in-Tup.is c.as_slice-in-Tup.ensures.value,
)

pub size_from-size_from-requires : goal.size_from-size_from-requires
size_from-size_from-requires t c =
    let w : ℕ → ℕ = name_weight (drop c.args.from c.args.table.now.realizations) in
    let same : weighed w c.get.result.now ≡ weighed w c.in-Arrow.argument = ap (weighed w) c.get.ensures.value in (
      omega (arith, sides_weigh w c.args.t.now c.in-Arrow.argument c.in-Arrow.value c.in-Arrow.is, same, c.decreases),
      subst (IsOver c.args.table.now.names) (sym c.get.ensures.value) (sides_are_over c.args.table.now.names c.args.t.now c.requires.over c.in-Arrow.argument c.in-Arrow.value c.in-Arrow.is).0,
    )

pub size_from-size_from-requires-in-Arrow : goal.size_from-size_from-requires-in-Arrow
size_from-size_from-requires-in-Arrow t c =
    let w : ℕ → ℕ = name_weight (drop c.args.from c.args.table.now.realizations) in
    let same : weighed w c.get-in-Arrow.result.now ≡ weighed w c.in-Arrow.value = ap (weighed w) c.get-in-Arrow.ensures.value in (
      omega (arith, sides_weigh w c.args.t.now c.in-Arrow.argument c.in-Arrow.value c.in-Arrow.is, same, c.decreases),
      subst (IsOver c.args.table.now.names) (sym c.get-in-Arrow.ensures.value) (sides_are_over c.args.table.now.names c.args.t.now c.requires.over c.in-Arrow.argument c.in-Arrow.value c.in-Arrow.is).1,
    )

pub size_from-returns-in-Var : goal.size_from-returns-in-Var
size_from-returns-in-Var t c = record { value = counted_var 0xffff_ffff_ffff_ffff (listed c.args.sizes.now) (drop c.args.from c.args.table.now.realizations) c.in-Var.v c.args.t.now c.size_of_variable.result c.in-Var.is c.size_of_variable.ensures.value c.size_of_variable.ensures.fits }

pub size_from-returns-in-None : goal.size_from-returns-in-None
size_from-returns-in-None t c =
    let rs = c.args.table.now.realizations in
    record {
      value = counted_name 0xffff_ffff_ffff_ffff (listed c.args.sizes.now) (drop c.args.from rs) c.follow-place.result.0 c.in-Con.arguments c.as_slice-arguments.result.now c.args.t.now c.total_size.result c.saturating_add.result
          (walked_con c.args.table.now.names rs c.args.from c.args.t.now c.in-Con.name c.follow-place.result.0 c.in-Con.arguments (map (resolved (drop c.args.from rs)) c.in-Con.arguments) None c.follow-place.ensures.sound.realizations c.requires.over c.in-Con.is refl
          (subst (IsFollowed c.args.table.now.names rs c.in-Con.name c.follow-place.result.0 c.args.from) c.in-None.is c.follow-place.ensures.followed))
          c.as_slice-arguments.ensures.value c.total_size.ensures.value c.saturating_add.ensures;
    }

pub size_from-returns-in-Some : goal.size_from-returns-in-Some
size_from-returns-in-Some t c =
    let rs = c.args.table.now.realizations in
    let names = c.args.table.now.names in
    let can : CanTake names rs c.in-Con.name c.in-Some.place = subst (λ o. IfSome o (CanTake names rs c.in-Con.name)) c.in-Some.is c.follow-place.ensures.followed.can_take in
    let count = takes_done names c.args.t.now c.in-Con.name c.in-Con.arguments (map (resolved (drop c.args.from rs)) c.in-Con.arguments) c.requires.over c.in-Con.is (length-map c.in-Con.arguments (resolved (drop c.args.from rs))) in
    record {
      value = c.applied_size.ensures.value
          ∙ counted_application 0xffff_ffff_ffff_ffff (listed c.args.sizes.now) (drop c.args.from rs) _ c.in-Con.arguments (resolved (drop (c.in-Some.place + 1) rs) (body_of (slice_get rs c.in-Some.place))) c.args.t.now
          (sizes_done 0xffff_ffff_ffff_ffff (listed c.args.sizes.now) (drop c.args.from rs) c.in-Con.arguments c.as_slice-arguments.result.now c.as_slice-arguments.ensures.value)
          (can.variables _ count)
          (walked_con names rs c.args.from c.args.t.now c.in-Con.name c.follow-place.result.0 c.in-Con.arguments (map (resolved (drop c.args.from rs)) c.in-Con.arguments) (Some c.in-Some.place) c.follow-place.ensures.sound.realizations c.requires.over c.in-Con.is refl
          (subst (IsFollowed names rs c.in-Con.name c.follow-place.result.0 c.args.from) c.in-Some.is c.follow-place.ensures.followed));
    }

pub size_from-returns-in-Rec : goal.size_from-returns-in-Rec
size_from-returns-in-Rec t c = record {
  value = counted_rec 0xffff_ffff_ffff_ffff (listed c.args.sizes.now) (drop c.args.from c.args.table.now.realizations) c.in-Rec.fields c.as_slice.result.now c.args.t.now c.total_field_size.result c.saturating_add-in-Rec.result
      c.in-Rec.is c.as_slice.ensures.value c.total_field_size.ensures.value c.saturating_add-in-Rec.ensures;
}

pub size_from-returns-in-Tup : goal.size_from-returns-in-Tup
size_from-returns-in-Tup t c = record {
  value = counted_tup 0xffff_ffff_ffff_ffff (listed c.args.sizes.now) (drop c.args.from c.args.table.now.realizations) c.in-Tup.components c.as_slice-in-Tup.result.now c.args.t.now c.total_size-in-Tup.result c.saturating_add-in-Tup.result
      c.in-Tup.is c.as_slice-in-Tup.ensures.value c.total_size-in-Tup.ensures.value c.saturating_add-in-Tup.ensures;
}

pub size_from-returns-in-Arrow : goal.size_from-returns-in-Arrow
size_from-returns-in-Arrow t c =
    let size = saturated_size (listed c.args.sizes.now) (drop c.args.from c.args.table.now.realizations) in
    record {
      value = counted_arrow 0xffff_ffff_ffff_ffff (listed c.args.sizes.now) (drop c.args.from c.args.table.now.realizations) c.in-Arrow.argument c.in-Arrow.value c.args.t.now c.size_from.result c.size_from-in-Arrow.result c.saturating_add-in-Arrow.result c.saturating_add-in-Arrow-2.result
          c.in-Arrow.is (c.size_from.ensures.value ∙ ap size c.get.ensures.value) (c.size_from-in-Arrow.ensures.value ∙ ap size c.get-in-Arrow.ensures.value) c.saturating_add-in-Arrow.ensures c.saturating_add-in-Arrow-2.ensures;
    }

pub total_field_size-loop-field-preserved : goal.total_field_size-loop-field-preserved
total_field_size-loop-field-preserved t c =
    counted_more 0xffff_ffff_ffff_ffff c.loop-field.total c.saturating_add-total.result c.size_from.result (λ field. saturated_size (listed c.args.sizes.now) (drop c.args.from c.args.table.now.realizations) field.ty) c.args.fields.now c.loop-field.field-index c.field-item.result _
    c.loop-field-test.true c.field-item.is c.size_from.ensures.value c.saturating_add-total.ensures c.loop-field.invariant.1

pub total_size-loop-part-preserved : goal.total_size-loop-part-preserved
total_size-loop-part-preserved t c =
    counted_more 0xffff_ffff_ffff_ffff c.loop-part.total c.saturating_add-total.result c.size_from.result (saturated_size (listed c.args.sizes.now) (drop c.args.from c.args.table.now.realizations)) c.args.parts.now c.loop-part.part-index c.part-item.result _
    c.loop-part-test.true c.part-item.is c.size_from.ensures.value c.saturating_add-total.ensures c.loop-part.invariant.1
