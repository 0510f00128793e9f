use Rattle.std.proofs.Common.{◌+◌, refl}
use Rattle.conv_terms.proofs.ShortNormals.{var_answer, lam_answer, lam_refused, app_answer, tup_answer, proj_answer, one_less, one_refused, all_answer}
use Rattle.conv_terms.proofs.short_normal.+short.Goals as goal

pub is_short-returns-in-Var : goal.is_short-returns-in-Var
is_short-returns-in-Var t c = record { value = λ n d. (λ _. var_answer n _ _ c.in-Var.is, λ _. refl) }

pub is_short-returns-then-not-is_expanded_body : goal.is_short-returns-then-not-is_expanded_body
is_short-returns-then-not-is_expanded_body t c = record {
  value = λ n d.
      lam_answer n _ _ _ _ _ _ _ c.in-Lam.is c.get-in-Lam.ensures.value c.get.ensures.value c.if-not-is_expanded_body.true
      (c.is_expanded_body.ensures.value n d) (c.is_short-below.ensures.value (n + 1) (c.next.ensures.value n d));
}

pub is_short-returns-else-not-is_expanded_body : goal.is_short-returns-else-not-is_expanded_body
is_short-returns-else-not-is_expanded_body t c = record {
  value = λ n d.
      lam_refused n _ _ _ _ _ c.in-Lam.is c.get-in-Lam.ensures.value c.if-not-is_expanded_body.false (c.is_expanded_body.ensures.value n d);
}

pub is_short-returns-then-is_short : goal.is_short-returns-then-is_short
is_short-returns-then-is_short t c = record {
  value = λ n d.
      app_answer n _ _ _ _ _ _ _ _ _ c.in-App.is c.get-in-App.ensures.value c.get-in-App-2.ensures.value c.get-then-is_short.ensures.value c.if-is_abstraction.false
      c.is_abstraction.ensures.value c.if-is_short.true (c.is_short.ensures.value n d) (c.is_short-then-is_short.ensures.value n d);
}

pub is_short-returns-then-not-are_all_projections : goal.is_short-returns-then-not-are_all_projections
is_short-returns-then-not-are_all_projections t c = record {
  value = λ n d.
      tup_answer n _ _ _ _ _ _ c.in-Tup.is c.as_slice.ensures.value c.as_slice-then-not-are_all_projections.ensures.value c.if-not-are_all_projections.true
      c.are_all_projections.ensures.value (c.are_short.ensures.value n d);
}

pub is_short-returns-then-not-is_tuple_of : goal.is_short-returns-then-not-is_tuple_of
is_short-returns-then-not-is_tuple_of t c = record {
  value = λ n d.
      proj_answer n _ _ _ _ _ _ _ _ c.in-Proj.is c.get-in-Proj.ensures.value c.get-then-not-is_tuple_of.ensures.value c.if-not-is_tuple_of.true
      c.is_tuple_of.ensures.value (c.is_short-then-not-is_tuple_of.ensures.value n d);
}

pub are_short-returns-then-not-is_short : goal.are_short-returns-then-not-is_short
are_short-returns-then-not-is_short t c = record {
  value = λ n d.
      one_refused n _ _ _ _ c.loop-t-test.true c.t-item.is c.if-not-is_short.true (c.is_short.ensures.value n d) (c.loop-t.invariant n d);
}

pub are_short-loop-t-preserved : goal.are_short-loop-t-preserved
are_short-loop-t-preserved t c = λ n d.
    one_less n _ _ _ _ c.loop-t-test.true c.t-item.is c.if-not-is_short.false (c.is_short.ensures.value n d) (c.loop-t.invariant n d)

pub are_short-returns : goal.are_short-returns
are_short-returns t c = record { value = λ n d. all_answer n _ _ c.loop-t-test.false (c.loop-t.invariant n d) }
