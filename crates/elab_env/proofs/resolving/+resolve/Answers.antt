use Rattle.std.proofs.Common.{◌≡◌, ℕ, ◌+◌, ◌≤◌, Some, None, drop, length, map, refl, sym, ap, ◌∙◌, subst, arith, IfOk, IfSome}
use Rattle.type_core.specs.declared.ty.Ty.{Ty}
use Rattle.type_core.specs.declared.ty.Field.{Field}
use Rattle.type_core.specs.Lists.{sum_of}
use Rattle.type_core.specs.Substitution.{VariablesBelow, substituted}
use Rattle.type_core.specs.Types.{IsOver, is_over}
use Rattle.elab_env.specs.Meaning.{CanTake, IsFollowed, body_of, name_weight, weight_at, weighed}
use Rattle.elab_env.specs.Realizations.{field_resolved, resolved}
use Rattle.elab_env.proofs.Walked.{arguments_are_over, arguments_weigh, components_are_over, components_weigh, fields_are_over, fields_weigh, name_weighs, part_passes, part_weighs, sides_are_over, sides_weigh, takes_done, walked_arrow, walked_con, walked_rec, walked_tup, walked_var}
use Rattle.elab_env.proofs.Used.{one_longer, unused_more, used_more}
use Rattle.elab_env.proofs.resolving.+resolve.Goals as goal
use Rattle.elab_env.proofs.resolving.+resolve.Goals.{resolve_used-then-lacks, resolve_used-else-lacks+in_ok-argument}

pub resolve_all-resolve_from-requires : goal.resolve_all-resolve_from-requires
resolve_all-resolve_from-requires t c =
    let w : Ty → ℕ = weighed (name_weight (drop c.args.from c.args.table.now.realizations)) in
    let h : w c.part-item.result ≤ sum_of (map w c.args.parts.now) = part_weighs w c.args.parts.now c.loop-part.part-index c.part-item.result c.loop-part-test.true c.part-item.is in
    (omega (arith, h, c.decreases), part_passes (is_over c.args.table.now.names) c.args.parts.now c.loop-part.part-index c.part-item.result c.requires.over c.loop-part-test.true c.part-item.is)

pub resolve_used-resolve_from-requires : goal.resolve_used-resolve_from-requires
resolve_used-resolve_from-requires t c =
    let w : Ty → ℕ = weighed (name_weight (drop c.args.from c.args.table.now.realizations)) in
    let h : w c.index-arguments-n.result ≤ sum_of (map w c.args.arguments.now) = part_weighs w c.args.arguments.now c.loop-n.n c.index-arguments-n.result c.loop-n-test.true c.index-arguments-n.is in
    (omega (arith, h, c.decreases), part_passes (is_over c.args.table.now.names) c.args.arguments.now c.loop-n.n c.index-arguments-n.result c.requires.over c.loop-n-test.true c.index-arguments-n.is)

pub resolve_used-loop-n-preserved : goal.resolve_used-loop-n-preserved
resolve_used-loop-n-preserved t c =
    let f : Ty → Ty = resolved (drop c.args.from c.args.table.now.realizations) in (
      one_longer _ _ c.loop-n.n _ c.in_ok-push.ensures.pushed c.loop-n.invariant.0,
      elim c.if-lacks.branch [
        | resolve_used-then-lacks w ↦ unused_more f c.args.arguments.now c.args.body.now c.loop-n.done _ c.loop-n.n c.index-arguments-n.result _ c.loop-n-test.true c.index-arguments-n.is c.in_ok-push.ensures.pushed c.loop-n.invariant.1 c.loop-n.invariant.0 (sym c.lacks.ensures.value ∙ w.if-lacks.true)
        | resolve_used-else-lacks+in_ok-argument w ↦ used_more f c.args.arguments.now c.args.body.now c.loop-n.done _ c.loop-n.n c.index-arguments-n.result _ c.loop-n-test.true c.index-arguments-n.is c.in_ok-push.ensures.pushed c.loop-n.invariant.1 (w.argument-is ∙ w.in_ok-argument.ensures.value)
      ],
    )

pub resolve_fields-resolve_from-requires : goal.resolve_fields-resolve_from-requires
resolve_fields-resolve_from-requires t c =
    let w : Field → ℕ = λ field. weighed (name_weight (drop c.args.from c.args.table.now.realizations)) field.ty in
    let h : w c.field-item.result ≤ sum_of (map w c.args.fields.now) = part_weighs w c.args.fields.now c.loop-field.field-index c.field-item.result c.loop-field-test.true c.field-item.is in
    (omega (arith, h, c.decreases), part_passes (λ field. is_over c.args.table.now.names field.ty) c.args.fields.now c.loop-field.field-index c.field-item.result c.requires.over c.loop-field-test.true c.field-item.is)

pub resolve_from-resolve_all-requires : goal.resolve_from-resolve_all-requires
resolve_from-resolve_all-requires t c = (
  omega (arith, arguments_weigh (name_weight (drop c.args.from c.args.table.now.realizations)) c.args.t.now c.in-Con.name c.in-Con.arguments c.as_slice-arguments.result.now c.in-Con.is c.as_slice-arguments.ensures.value, c.decreases),
  arguments_are_over c.args.table.now.names c.args.t.now c.requires.over c.in-Con.name c.in-Con.arguments c.as_slice-arguments.result.now c.in-Con.is c.as_slice-arguments.ensures.value,
)

pub resolve_from-resolve_used-requires : goal.resolve_from-resolve_used-requires
resolve_from-resolve_used-requires t c = (
  omega (arith, arguments_weigh (name_weight (drop c.args.from c.args.table.now.realizations)) c.args.t.now c.in-Con.name c.in-Con.arguments c.as_slice-arguments.result.now c.in-Con.is c.as_slice-arguments.ensures.value, c.decreases),
  arguments_are_over c.args.table.now.names c.args.t.now c.requires.over c.in-Con.name c.in-Con.arguments c.as_slice-arguments.result.now c.in-Con.is c.as_slice-arguments.ensures.value,
)

pub resolve_from-realization-requires : goal.resolve_from-realization-requires
resolve_from-realization-requires t c =
    let can : CanTake c.args.table.now.names c.args.table.now.realizations c.in-Con.name c.in-Some.place = subst (λ o. IfSome o (CanTake c.args.table.now.names c.args.table.now.realizations c.in-Con.name)) c.in-Some.is c.follow-place.ensures.followed.can_take in
    record { within = can.within }

pub resolve_from-resolve_from-requires : goal.resolve_from-resolve_from-requires
resolve_from-resolve_from-requires t c =
    let rs = c.args.table.now.realizations in
    let can : CanTake c.args.table.now.names rs c.in-Con.name c.in-Some.place = subst (λ o. IfSome o (CanTake c.args.table.now.names rs c.in-Con.name)) c.in-Some.is c.follow-place.ensures.followed.can_take in
    let weight : weight_at rs (Some c.in-Some.place) ≤ name_weight (drop c.args.from rs) c.in-Con.name.0 = subst (λ o. weight_at rs o ≤ name_weight (drop c.args.from rs) c.in-Con.name.0) c.in-Some.is c.follow-place.ensures.followed.weighs in
    let here : weight_at rs (Some c.in-Some.place) ≡ weighed (name_weight (drop (c.in-Some.place + 1) rs)) c.realization.result.now.fun.body = ap (λ o. weighed (name_weight (drop (c.in-Some.place + 1) rs)) (body_of o)) c.realization.ensures.value in (
      omega (arith, name_weighs (name_weight (drop c.args.from rs)) c.args.t.now c.in-Con.name c.in-Con.arguments c.in-Con.is, weight, here, c.decreases),
      subst (λ o. IsOver c.args.table.now.names (body_of o)) c.realization.ensures.value can.over,
    )

pub resolve_from-substitute-requires : goal.resolve_from-substitute-requires
resolve_from-substitute-requires t c =
    let rs = c.args.table.now.realizations in
    let can : CanTake c.args.table.now.names rs c.in-Con.name c.in-Some.place = subst (λ o. IfSome o (CanTake c.args.table.now.names rs c.in-Con.name)) c.in-Some.is c.follow-place.ensures.followed.can_take in
    let count = takes_done c.args.table.now.names c.args.t.now c.in-Con.name c.in-Con.arguments c.in_ok-arguments-in-Some.arguments c.requires.over c.in-Con.is (c.in_ok-arguments-in-Some.ensures.count ∙ ap length c.as_slice-arguments.ensures.value) in
    record { below = subst (VariablesBelow _) (ap (λ o. resolved (drop (c.in-Some.place + 1) rs) (body_of o)) c.realization.ensures.value ∙ sym c.in_ok-body-in-Some.ensures.value) (can.variables _ count) }

pub resolve_from-resolve_fields-requires : goal.resolve_from-resolve_fields-requires
resolve_from-resolve_fields-requires t c = (
  omega (arith, fields_weigh (name_weight (drop c.args.from c.args.table.now.realizations)) c.args.t.now c.in-Rec.fields c.as_slice.result.now c.in-Rec.is c.as_slice.ensures.value, c.decreases),
  fields_are_over c.args.table.now.names c.args.t.now c.requires.over c.in-Rec.fields c.as_slice.result.now c.in-Rec.is c.as_slice.ensures.value,
)

pub resolve_from-resolve_all-requires-in-Tup : goal.resolve_from-resolve_all-requires-in-Tup
resolve_from-resolve_all-requires-in-Tup t c = (
  omega (arith, components_weigh (name_weight (drop c.args.from c.args.table.now.realizations)) c.args.t.now c.in-Tup.components c.as_slice-in-Tup.result.now c.in-Tup.is c.as_slice-in-Tup.ensures.value, c.decreases),
  components_are_over c.args.table.now.names c.args.t.now c.requires.over c.in-Tup.components c.as_slice-in-Tup.result.now c.in-Tup.is c.as_slice-in-Tup.ensures.value,
)

pub resolve_from-resolve_from-requires-in-Arrow : goal.resolve_from-resolve_from-requires-in-Arrow
resolve_from-resolve_from-requires-in-Arrow t c =
    let w : ℕ → ℕ = name_weight (drop c.args.from c.args.table.now.realizations) in
    let same : weighed w c.get.result.now ≡ weighed w c.in-Arrow.argument = ap (weighed w) c.get.ensures.value in (
      omega (arith, sides_weigh w c.args.t.now c.in-Arrow.argument c.in-Arrow.value c.in-Arrow.is, same, c.decreases),
      subst (IsOver c.args.table.now.names) (sym c.get.ensures.value) (sides_are_over c.args.table.now.names c.args.t.now c.requires.over c.in-Arrow.argument c.in-Arrow.value c.in-Arrow.is).0,
    )

pub resolve_from-resolve_from-requires-in-Arrow-2 : goal.resolve_from-resolve_from-requires-in-Arrow-2
resolve_from-resolve_from-requires-in-Arrow-2 t c =
    let w : ℕ → ℕ = name_weight (drop c.args.from c.args.table.now.realizations) in
    let same : weighed w c.get-in-Arrow.result.now ≡ weighed w c.in-Arrow.value = ap (weighed w) c.get-in-Arrow.ensures.value in (
      omega (arith, sides_weigh w c.args.t.now c.in-Arrow.argument c.in-Arrow.value c.in-Arrow.is, same, c.decreases),
      subst (IsOver c.args.table.now.names) (sym c.get-in-Arrow.ensures.value) (sides_are_over c.args.table.now.names c.args.t.now c.requires.over c.in-Arrow.argument c.in-Arrow.value c.in-Arrow.is).1,
    )

pub resolve_from-returns-in-Var : goal.resolve_from-returns-in-Var
resolve_from-returns-in-Var t c = record { value = walked_var (drop c.args.from c.args.table.now.realizations) _ _ c.in-Var.is }

pub resolve_from-returns-in_ok-arguments-in-None : goal.resolve_from-returns-in_ok-arguments-in-None
resolve_from-returns-in_ok-arguments-in-None t c =
    let rs = c.args.table.now.realizations in
    record {
      value = walked_con c.args.table.now.names rs c.args.from c.args.t.now c.in-Con.name c.follow-place.result.0 c.in-Con.arguments c.in_ok-arguments-in-None.arguments None c.follow-place.ensures.sound.realizations c.requires.over c.in-Con.is
          (c.in_ok-arguments-in-None.ensures.value ∙ ap (map (resolved (drop c.args.from rs))) c.as_slice-arguments.ensures.value)
          (subst (IsFollowed c.args.table.now.names rs c.in-Con.name c.follow-place.result.0 c.args.from) c.in-None.is c.follow-place.ensures.followed);
    }

pub resolve_from-returns-in_ok-arguments-in-Some : goal.resolve_from-returns-in_ok-arguments-in-Some
resolve_from-returns-in_ok-arguments-in-Some t c =
    let rs = c.args.table.now.realizations in
    let all = map (resolved (drop c.args.from rs)) in
    let walked = walked_con c.args.table.now.names rs c.args.from c.args.t.now c.in-Con.name c.follow-place.result.0 c.in-Con.arguments (all c.in-Con.arguments) (Some c.in-Some.place) c.follow-place.ensures.sound.realizations c.requires.over c.in-Con.is refl
    (subst (IsFollowed c.args.table.now.names rs c.in-Con.name c.follow-place.result.0 c.args.from) c.in-Some.is c.follow-place.ensures.followed) in
    record {
      value = subst (λ (z : Ty). IfOk c.substitute.result (λ r. r ≡ z))
          (c.in_ok-arguments-in-Some.ensures.value
          ∙ ap (λ ts. substituted (all ts) c.in_ok-body-in-Some.body) c.as_slice-arguments.ensures.value
          ∙ ap (substituted (all c.in-Con.arguments)) (c.in_ok-body-in-Some.ensures.value ∙ sym (ap (λ o. resolved (drop (c.in-Some.place + 1) rs) (body_of o)) c.realization.ensures.value))
          ∙ walked)
          c.substitute.ensures.value;
    }

pub resolve_from-returns-in_ok-fields-in-Rec : goal.resolve_from-returns-in_ok-fields-in-Rec
resolve_from-returns-in_ok-fields-in-Rec t c = record { value = walked_rec (drop c.args.from c.args.table.now.realizations) c.args.t.now c.in-Rec.fields _ c.in-Rec.is (c.in_ok-fields-in-Rec.ensures.value ∙ ap (map (field_resolved (drop c.args.from c.args.table.now.realizations))) c.as_slice.ensures.value) }

pub resolve_from-returns-in_ok-components-in-Tup : goal.resolve_from-returns-in_ok-components-in-Tup
resolve_from-returns-in_ok-components-in-Tup t c = record { value = walked_tup (drop c.args.from c.args.table.now.realizations) c.args.t.now c.in-Tup.components _ c.in-Tup.is (c.in_ok-components-in-Tup.ensures.value ∙ ap (map (resolved (drop c.args.from c.args.table.now.realizations))) c.as_slice-in-Tup.ensures.value) }

pub resolve_from-returns-in_ok-value-in-Arrow-2 : goal.resolve_from-returns-in_ok-value-in-Arrow-2
resolve_from-returns-in_ok-value-in-Arrow-2 t c =
    let rs = drop c.args.from c.args.table.now.realizations in
    record {
      value = walked_arrow rs c.args.t.now c.in-Arrow.argument c.in-Arrow.value _ _ c.in-Arrow.is
          (c.in_ok-argument-in-Arrow-2.ensures.value ∙ c.in_ok-argument-in-Arrow.ensures.value ∙ ap (resolved rs) c.get.ensures.value)
          (c.in_ok-value-in-Arrow-2.ensures.value ∙ c.in_ok-value-in-Arrow.ensures.value ∙ ap (resolved rs) c.get-in-Arrow.ensures.value);
    }
