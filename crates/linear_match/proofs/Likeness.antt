-- Factors that are like none before a place.
use Rattle.std.proofs.Common.{◌≡◌, ℕ, zero, suc, ◌+◌, ◌-◌, ◌<◌, ◌≤◌, ◌⊎◌, inl, inr, List, [], ◌∷◌, drop, length, take, Some, slice_get, sym, ap, ap₂, ◌∙◌, subst, arith}
use Rattle.std.proofs.lemmas.List.{drop_more}
use Rattle.std.proofs.lemmas.Option.{get_or_from_slice_get, slice_get_within}
use Rattle.iso_normal.specs.declared.factor.Factor.{Factor}
use Rattle.iso_normal.specs.declared.factor.Factor.TheViews.{out-Factor}
use Rattle.iso_normal.specs.Agreement.{Agree, AreAlike, first, more, none}
use Rattle.linear_match.specs.search.Cutting.{IsLikeNone}

-- a factor at its place
pub at_slice : (fs : List Factor) (k : ℕ) (f : Factor) → slice_get fs k ≡ Some f → drop k fs ≡ f ∷ drop (k + 1) fs
at_slice fs k f e = drop_more fs k f (slice_get_within fs k f e)
    ∙ ap (λ x. x ∷ drop (k + 1) fs) (get_or_from_slice_get fs k f f e)

pub one_slice : (fs : List Factor) (k : ℕ) (f : Factor) → slice_get fs k ≡ Some f
    → take ((k + 1) - k) (drop k fs) ≡ f ∷ []
one_slice fs k f e =
    let one : (k + 1) - k ≡ 1 = omega arith in
    ap₂ take one (at_slice fs k f e)

-- no factor before number k is like it
abbrev pub UnlikeBefore : List Factor → ℕ → List Factor → ℕ → ℕ → Type 0
UnlikeBefore fs at gs from k = (j : ℕ) (f g : Factor) → slice_get fs at ≡ Some f → slice_get gs j ≡ Some g → from ≤ j
    → j < k → AreAlike (out-Factor f) (out-Factor g) → ⊥

pub unlike_first : (fs : List Factor) (at : ℕ) (gs : List Factor) (from : ℕ) → UnlikeBefore fs at gs from from
unlike_first fs at gs from j f g e i l m = absurd (omega (arith, l, m))

pub unlike_next : (fs : List Factor) (at : ℕ) (gs : List Factor) (from k : ℕ) (xs ys : List Factor)
    → ((f : Factor) → slice_get fs at ≡ Some f → xs ≡ f ∷ []) → ((g : Factor) → slice_get gs k ≡ Some g → ys ≡ g ∷ [])
    → (Agree xs ys → ⊥) → UnlikeBefore fs at gs from k → UnlikeBefore fs at gs from (k + 1)
unlike_next fs at gs from k xs ys one other apart before j f g e i l m alike = go (order j k m) where
  order : (j k : ℕ) → j < k + 1 → (j < k) ⊎ (j ≡ k)
  order zero zero m = inr (omega arith)
  order zero (suc k) m = inl (omega arith)
  order (suc j) zero m = absurd (omega (arith, m))
  order (suc j) (suc k) m = elim (order j k (omega (arith, m))) [ inl a ↦ inl (omega (arith, a)) | inr b ↦ inr (ap suc b) ]

  go : (j < k) ⊎ (j ≡ k) → ⊥
  go (inl a) = before j f g e i l a alike
  go (inr b) =
      apart (subst (λ xs. Agree xs ys) (sym (one f e))
      (subst (Agree (f ∷ [])) (sym (other g (subst (λ j. slice_get gs j ≡ Some g) b i))) (more (first []) alike none)))

pub unlike_all : (fs : List Factor) (at : ℕ) (gs : List Factor) (from k : ℕ) → length gs ≤ k
    → UnlikeBefore fs at gs from k → IsLikeNone fs at gs from
unlike_all fs at gs from k past before j f g e i l alike =
    before j f g e i l (omega (arith, past, slice_get_within gs j g i)) alike
