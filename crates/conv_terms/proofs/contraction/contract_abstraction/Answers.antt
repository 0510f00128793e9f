use Rattle.std.proofs.Common.{sym, ap, ap₂, subst, ◌∙◌, true≢false}
use Rattle.std.proofs.lemmas.Result.{IfOk-weaker}
use Rattle.conv_terms.specs.declared.term.Term.TheVariants as term
use Rattle.conv_terms.specs.Contraction.{IsExpandedBody}
use Rattle.conv_terms.specs.deciding.Depths.{is_absent}
use Rattle.conv_terms.proofs.Lowering.{expanded_parts}
use Rattle.conv_terms.proofs.Contractions.{body_contracts, body_stays, other_body}
use Rattle.conv_terms.proofs.contraction.contract_abstraction.Goals as goal

pub lower-requires : goal.lower-requires
lower-requires c = record {
  absent = ap (is_absent c.args.n) (c.into_inner.ensures.value ∙ sym c.get.ensures.value) ∙ (expanded_parts c.args.n _ _ (c.is_expanded.ensures.value.0 c.if-is_expanded.true)).1;
}

pub returns-then-is_expanded : goal.returns-then-is_expanded
returns-then-is_expanded c = record {
  value = λ t k. IfOk-weaker c.lower.result _ _
      (λ r lowered. body_contracts c.args.n c.args.a _ _ _ _ _ _ r c.in-App.is c.get.ensures.value c.get-in-App.ensures.value c.into_inner.ensures.value lowered (c.is_expanded.ensures.value.0 c.if-is_expanded.true) t k)
      c.lower.ensures.value;
}

pub returns-else-is_expanded : goal.returns-else-is_expanded
returns-else-is_expanded c = record {
  value = λ t k. IfOk-weaker c.abstraction.result _ _
      (λ r is. body_stays c.args.n c.args.a _ r (is ∙ ap (term.Lam c.args.a) (sym c.in-App.is))
      (λ b. true≢false (sym (c.is_expanded.ensures.value.1 (subst (IsExpandedBody c.args.n) (c.in-App.is ∙ ap₂ term.App (sym c.get.ensures.value) (sym c.get-in-App.ensures.value)) b)) ∙ c.if-is_expanded.false)) t k)
      c.abstraction.ensures.value;
}

pub returns-in_default : goal.returns-in_default
returns-in_default c = record {
  value = λ t k. IfOk-weaker c.abstraction-in_default.result _ _
      (λ r is. body_stays c.args.n c.args.a c.args.body r is (other_body c.args.n c.args.body c.in_default.not-App) t k)
      c.abstraction-in_default.ensures.value;
}
