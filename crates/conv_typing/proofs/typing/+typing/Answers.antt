use Rattle.std.proofs.Common.{refl, subst, subst₂, sym, ◌∙◌, take, add-one}
use Rattle.conv_typing.specs.Typing.{HaveTypes}
use Rattle.conv_typing.specs.deciding.TypeOf.{IsTypeOf}
use Rattle.conv_typing.proofs.Deciding.{var_answer, lam_answer, app_answer, tup_answer, proj_answer, have_more, one_missing}
use Rattle.conv_typing.proofs.typing.+typing.Goals as goal

pub find_type-returns-in-Var-clause-value : goal.find_type-returns-in-Var-clause-value
find_type-returns-in-Var-clause-value t c = var_answer _ _ _ _ _ c.in-Var.is c.as_slice.ensures.value c.variable_type.ensures.value

pub find_type-returns-in_ok-b-in-Lam-clause-value : goal.find_type-returns-in_ok-b-in-Lam-clause-value
find_type-returns-in_ok-b-in-Lam-clause-value t c =
    lam_answer _ _ _ _ _ _ _ _ _ _ c.in-Lam.is (c.in_ok-copy-in-Lam.ensures.value ∙ c.get.ensures.value) c.get-in-Lam-2.ensures.value c.get-in-Lam.ensures.value
    c.in_ok-push-in-Lam.ensures.pushed c.in_ok-b-in-Lam.ensures.value c.function_type.ensures.value

pub find_type-returns-in_ok-argument-in-App-clause-value : goal.find_type-returns-in_ok-argument-in-App-clause-value
find_type-returns-in_ok-argument-in-App-clause-value t c =
    app_answer _ _ _ _ _ _ _ _ _ c.in-App.is c.get-in-App.ensures.value c.get-in-App-2.ensures.value c.in_ok-function-in-App.ensures.value
    (subst (λ ctx. IsTypeOf ctx c.get-in-App-2.result.now c.in_ok-argument-in-App.argument) c.in_ok-function-in-App.ensures.kept c.in_ok-argument-in-App.ensures.value) c.result_type.ensures.value

pub find_type-returns-in_ok-types-in-Tup-clause-value : goal.find_type-returns-in_ok-types-in-Tup-clause-value
find_type-returns-in_ok-types-in-Tup-clause-value t c = tup_answer _ _ _ _ _ _ c.in-Tup.is c.as_slice-in-Tup.ensures.value c.in_ok-types-in-Tup.ensures.value c.tuple_type.ensures.value

pub find_type-returns-in_ok-e-in-Proj-clause-value : goal.find_type-returns-in_ok-e-in-Proj-clause-value
find_type-returns-in_ok-e-in-Proj-clause-value t c = proj_answer _ _ _ _ _ _ _ _ c.in-Proj.is c.get-in-Proj.ensures.value c.in_ok-e-in-Proj.ensures.value c.component_type.ensures.value

pub find_types-loop-t-init : goal.find_types-loop-t-init
find_types-loop-t-init t c = (subst (HaveTypes _ _) (sym c.new-done.ensures.empty) HaveTypes.none, refl)

pub find_types-returns-in-None-clause-value : goal.find_types-returns-in-None-clause-value
find_types-returns-in-None-clause-value t c = one_missing _ _ _ _ c.loop-t-test.true c.t-item.is (subst₂ (λ ctx a. IsTypeOf ctx c.t-item.result a) c.loop-t.invariant.1 c.in-None.is c.in_ok-a.ensures.value)

pub find_types-loop-t-preserved : goal.find_types-loop-t-preserved
find_types-loop-t-preserved t c = (
  subst₂ (λ n types. HaveTypes c.args.ctx.now (take n c.args.terms.now) types) (sym (add-one c.loop-t.t-index)) (sym c.in_ok-push-in-Some.ensures.pushed)
      (have_more _ _ _ _ _ _ c.loop-t.invariant.0 c.loop-t-test.true c.t-item.is (subst₂ (λ ctx a. IsTypeOf ctx c.t-item.result a) c.loop-t.invariant.1 c.in-Some.is c.in_ok-a.ensures.value)),
  c.in_ok-a.ensures.kept ∙ c.loop-t.invariant.1,
)
