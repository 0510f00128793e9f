use Rattle.std.proofs.Common.{refl, inl, inr}
use Rattle.sig_base.proofs.Stacks.{none_among, empty_among}
use Rattle.sig_base.proofs.stack.Stack.has_none.Goals as goal

pub returns-then-count-eq0 : goal.returns-then-count-eq0
returns-then-count-eq0 c = λ c'. record { value = (λ _. none_among _ _ (inl c'.if-count-eq0.true), λ _. refl) }

pub returns : goal.returns
returns c = λ c'. record { value = (λ yes. none_among _ _ (inr (c'.is_empty.ensures.value.0 yes)), λ none. c'.is_empty.ensures.value.1 (empty_among _ _ c'.if-count-eq0.false none)) }
