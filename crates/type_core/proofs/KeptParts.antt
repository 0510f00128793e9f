-- Parts that stay.
use Rattle.std.proofs.Common.{◌≡◌, ℕ, ◌+◌, List, [], ◌∷◌, ◌++◌, Option, Some, None, slice_get, take, ap, sym, ◌∙◌}
use native.Mathlib.Numerals.{unary_clauses}
use Rattle.std.proofs.Math.Seq.{take-suc}
use Rattle.std.proofs.lemmas.Option.{get_or_from_slice_get, slice_get_within}
use Rattle.type_core.specs.Kept.{or_kept}

one_more : {A : Type 0} (xs : List A) (i : ℕ) (x : A) → slice_get xs i ≡ Some x → take (i + 1) xs ≡ take i xs ++ x ∷ []
one_more xs i x here =
    simp unary_clauses (take-suc xs i x (slice_get_within xs i x here) ∙ ap (λ z. take i xs ++ z ∷ []) (get_or_from_slice_get xs i x x here))

pub one_kept : {A : Type 0} (xs : List A) (i : ℕ) (x : A) (before : Option (List A)) → before ≡ None → slice_get xs i ≡ Some x
    → take (i + 1) xs ≡ or_kept (take i xs) before ++ x ∷ []
one_kept xs i x before none here = one_more xs i x here ∙ ap (λ d. or_kept (take i xs) d ++ x ∷ []) (sym none)
