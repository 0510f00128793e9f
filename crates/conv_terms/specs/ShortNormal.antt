-- Short normal terms: there is nothing to reduce and nothing to contract.
use Rattle.std.specs.Prelude.{◌≡◌, ℕ, ◌+◌, false, List, [], ◌∷◌}
use Rattle.type_core.specs.declared.ty.Ty.{Ty}
use Rattle.conv_terms.specs.declared.term.Term.{Term}
use Rattle.conv_terms.specs.declared.term.Term.TheVariants as term
use Rattle.conv_terms.specs.LongForm.{is_abstraction, is_tuple_of}
use Rattle.conv_terms.specs.Contraction.{IsExpandedBody, AreAllProjections}

mutual
  -- in a context of n variables, the term has no beta redex, no projection of m from a tuple of m components, no
  -- fn (x : a) => f x where x doesn't stand in f, and no (#1 e, .., #m e) with m at least 2
  pub data IsShortNormal : ℕ → Term → Type 0 where
    var : {n : ℕ} (i : ℕ) → IsShortNormal n (term.Var i)
    lam : {n : ℕ} (a : Ty) (t : Term) → ¬ (IsExpandedBody n t) → IsShortNormal (n + 1) t → IsShortNormal n (term.Lam a t)
    app : {n : ℕ} (f e : Term) → is_abstraction f ≡ false → IsShortNormal n f → IsShortNormal n e → IsShortNormal n (term.App f e)
    tup : {n : ℕ} (ts : List Term) → ¬ (AreAllProjections ts) → AreShortNormal n ts → IsShortNormal n (term.Tup ts)
    proj : {n : ℕ} (i count : ℕ) (e : Term) → is_tuple_of count e ≡ false → IsShortNormal n e → IsShortNormal n (term.Proj i count e)

  -- each of the terms is short normal
  pub data AreShortNormal : ℕ → List Term → Type 0 where
    none : {n : ℕ} → AreShortNormal n []
    more : {n : ℕ} {t : Term} {ts : List Term} → IsShortNormal n t → AreShortNormal n ts → AreShortNormal n (t ∷ ts)
