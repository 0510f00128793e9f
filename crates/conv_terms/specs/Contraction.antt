-- Contraction: eta and surjective pairing, each used once from the leaves of the term to its root.
use Rattle.std.specs.Prelude.{◌≡◌, ℕ, ◌+◌, ◌≤◌, List, [], ◌∷◌, zero, suc}
use Rattle.type_core.specs.declared.ty.Ty.{Ty}
use Rattle.conv_terms.specs.declared.term.Term.{Term}
use Rattle.conv_terms.specs.declared.term.Term.TheVariants as term
use Rattle.conv_terms.specs.Shifting.{shifted}

-- `count` projections of n from e, beginning with the i-th
abbrev pub projections : Term → ℕ → ℕ → ℕ → List Term
projections e n i zero = []
projections e n i (suc count) = term.Proj i n e ∷ projections e n (i + 1) count

-- (#1 e, .., #n e), without the parentheses
abbrev pub all_projections : Term → ℕ → List Term
all_projections e n = projections e n 1 n

-- the term is f x for the variable x of level n, which doesn't stand in f
abbrev pub IsExpandedBody : ℕ → Term → Type 0
IsExpandedBody n t = (f : Term) × (t ≡ term.App (shifted n 1 f) (term.Var n))

-- the terms are #1 e to #n e for an e and an n of at least 2
abbrev pub AreAllProjections : List Term → Type 0
AreAllProjections ts = (e : Term) × (n : ℕ) × (2 ≤ n) × (ts ≡ all_projections e n)

mutual
  -- in a context of n variables, the second term is what the first contracts to, the parts first
  pub data IsContraction : ℕ → Term → Term → Type 0 where
    var : {n : ℕ} (i : ℕ) → IsContraction n (term.Var i) (term.Var i)
    lam : {n : ℕ} (a : Ty) (t u : Term) → IsContraction (n + 1) t u → ¬ (IsExpandedBody n u) → IsContraction n (term.Lam a t) (term.Lam a u)
    -- fn (x : a) => f x, where x doesn't stand in f, becomes f
    eta : {n : ℕ} (a : Ty) (t f : Term) → IsContraction (n + 1) t (term.App (shifted n 1 f) (term.Var n)) → IsContraction n (term.Lam a t) f
    app : {n : ℕ} (f g e u : Term) → IsContraction n f g → IsContraction n e u → IsContraction n (term.App f e) (term.App g u)
    tup : {n : ℕ} (ts us : List Term) → AreContractions n ts us → ¬ (AreAllProjections us) → IsContraction n (term.Tup ts) (term.Tup us)
    -- (#1 e, .., #m e) becomes e, where m is at least 2
    surjective_pairing : {n : ℕ} (ts : List Term) (e : Term) (m : ℕ) → 2 ≤ m → AreContractions n ts (all_projections e m) → IsContraction n (term.Tup ts) e
    proj : {n : ℕ} (i count : ℕ) (e u : Term) → IsContraction n e u → IsContraction n (term.Proj i count e) (term.Proj i count u)

  -- each of the second terms is what the first contracts to
  pub data AreContractions : ℕ → List Term → List Term → Type 0 where
    none : {n : ℕ} → AreContractions n [] []
    more : {n : ℕ} {t u : Term} {ts us : List Term} → IsContraction n t u → AreContractions n ts us → AreContractions n (t ∷ ts) (u ∷ us)
