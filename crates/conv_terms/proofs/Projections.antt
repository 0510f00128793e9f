-- The projections of all components from a term.
use Rattle.std.proofs.Common.{◌≡◌, ℕ, ◌+◌, ◌<◌, ◌≤◌, ◌↔◌, Bool, true, false, true≢false, List, [], ◌∷◌, ◌++◌, length, length-append, get_or, take, take-suc, refl, sym, ap, ap₂, ◌∙◌, subst, arith, zero, suc, add-one}
use Rattle.conv_terms.specs.declared.term.Term.{Term}
use Rattle.conv_terms.specs.declared.term.Term.TheVariants as term
use Rattle.conv_terms.specs.Contraction.{projections, all_projections, AreAllProjections}
use Rattle.conv_terms.proofs.Forms.{proj_tuple}

pub length_projections : (e : Term) (n i count : ℕ) → length (projections e n i count) ≡ count
length_projections e n i zero = refl
length_projections e n i (suc count) = ap suc (length_projections e n (i + 1) count)

projections_push : (e : Term) (n i count : ℕ) → projections e n i (suc count) ≡ projections e n i count ++ term.Proj (i + count) n e ∷ []
projections_push e n i zero = let none : i ≡ i + 0 = omega arith in ap (λ j. term.Proj j n e ∷ []) none
projections_push e n i (suc count) =
    let moved : i + 1 + count ≡ i + suc count = omega arith in
    ap (λ ts. term.Proj i n e ∷ ts) (projections_push e n (i + 1) count ∙ ap (λ j. projections e n (i + 1) count ++ term.Proj j n e ∷ []) moved)

at_place : (e d : Term) (n i count k : ℕ) → k < count → get_or (projections e n i count) k d ≡ term.Proj (i + k) n e
at_place e d n i zero k less = let never : ⊥ = omega (arith, less) in absurd never
at_place e d n i (suc count) zero less = let none : i ≡ i + 0 = omega arith in ap (λ j. term.Proj j n e) none
at_place e d n i (suc count) (suc k) less =
    let lower : k < count = omega (arith, less) in
    let moved : i + 1 + k ≡ i + suc k = omega arith in
    at_place e d n (i + 1) count k lower ∙ ap (λ j. term.Proj j n e) moved

-- terms one after the other
pub one_more : (ts : List Term) (e t : Term) (i : ℕ) (x : Bool) → i < length ts → t ≡ get_or ts i t → x ≡ true → (x ≡ true) ↔ (t ≡ term.Proj (i + 1) (length ts) e) → take i ts ≡ projections e (length ts) 1 i → take (i + 1) ts ≡ projections e (length ts) 1 (i + 1)
one_more ts e t i x less is holds projection before =
    let moved : i + 1 ≡ 1 + i = omega arith in
    subst (λ m. take m ts ≡ projections e (length ts) 1 m) (sym (add-one i))
    (take-suc ts i t less ∙ ap₂ (λ us u. us ++ u ∷ []) before (sym is ∙ projection.0 holds ∙ ap (λ j. term.Proj j (length ts) e) moved) ∙ sym (projections_push e (length ts) 1 i))

pub one_other : (ts : List Term) (e t : Term) (i : ℕ) (x : Bool) → i < length ts → t ≡ get_or ts i t → x ≡ false → (x ≡ true) ↔ (t ≡ term.Proj (i + 1) (length ts) e) → (false ≡ true) ↔ (ts ≡ all_projections e (length ts))
one_other ts e t i x less is lacks projection = (
  (λ h. absurd (true≢false (sym h))),
  (λ all. let moved : 1 + i ≡ i + 1 = omega arith in sym lacks ∙ projection.1 (is ∙ ap (λ us. get_or us i t) all ∙ at_place e t (length ts) 1 (length ts) i less ∙ ap (λ j. term.Proj j (length ts) e) moved)),
)

pub too_few : (ts : List Term) → length ts < 2 → ¬ (AreAllProjections ts)
too_few ts few (e, n, two, are) =
    let size : length ts ≡ n = ap length are ∙ length_projections e n 1 n in
    let never : ⊥ = omega (arith, few, two, size) in never

-- the term is determined
pub one_projected : (e u : Term) (n m : ℕ) → 2 ≤ n → all_projections e n ≡ all_projections u m → e ≡ u
one_projected e u n m two are =
    let size : n ≡ m = sym (length_projections e n 1 n) ∙ ap length are ∙ length_projections u m 1 m in
    let some : 0 < n = omega (arith, two) in
    let other : 0 < m = omega (arith, two, size) in
    proj_tuple (1 + 0) n (1 + 0) m e u (sym (at_place e e n 1 n 0 some) ∙ ap (λ us. get_or us 0 e) are ∙ at_place u e m 1 m 0 other)

-- the first is a projection, and all are from what it projects from
pub first_projected : (ts : List Term) (t : Term) → t ≡ get_or ts 0 t → AreAllProjections ts → (e : Term) × (i : ℕ) × (count : ℕ) × (t ≡ term.Proj i count e)
first_projected ts t first (e, n, two, are) =
    let some : 0 < n = omega (arith, two) in
    (e, 1 + 0, n, first ∙ ap (λ us. get_or us 0 t) are ∙ at_place e t n 1 n 0 some)

pub the_projections : (ts : List Term) (t e : Term) (i count : ℕ) → t ≡ get_or ts 0 t → t ≡ term.Proj i count e → AreAllProjections ts → ts ≡ all_projections e (length ts)
the_projections ts t e i count first is (u, n, two, are) =
    let size : length ts ≡ n = ap length are ∙ length_projections u n 1 n in
    let some : 0 < n = omega (arith, two) in
    let one : e ≡ u = proj_tuple i count (1 + 0) n e u (sym is ∙ first ∙ ap (λ us. get_or us 0 t) are ∙ at_place u t n 1 n 0 some) in
    are ∙ ap₂ all_projections (sym one) (sym size)

pub all_answer : (ts : List Term) (t e g : Term) (i count : ℕ) (r : Bool) → 2 ≤ length ts → t ≡ get_or ts 0 t → t ≡ term.Proj i count e → g ≡ e → (r ≡ true) ↔ (ts ≡ all_projections g (length ts)) → (r ≡ true) ↔ AreAllProjections ts
all_answer ts t e g i count r two first is g_is all = (
  (λ h. (g, length ts, two, all.0 h)),
  (λ p. all.1 (the_projections ts t e i count first is p ∙ ap (λ u. all_projections u (length ts)) (sym g_is))),
)

-- the last of all projections
last_is : (ts : List Term) (t d : Term) → get_or (ts ++ t ∷ []) (length ts) d ≡ t
last_is [] t d = refl
last_is (x ∷ ts) t d = last_is ts t d

last_projected : (ts left : List Term) (t : Term) → AreAllProjections ts → ts ≡ left ++ t ∷ [] → (e : Term) × (n : ℕ) × (2 ≤ n) × (ts ≡ all_projections e n) × (t ≡ term.Proj n n e)
last_projected ts left t (e, n, two, are) is =
    let size : n ≡ length left + 1 = sym (length_projections e n 1 n) ∙ ap length (sym are ∙ is) ∙ length-append left (t ∷ []) in
    let less : length left < n = omega (arith, size) in
    let place : 1 + length left ≡ n = omega (arith, size) in
    (e, n, two, are, sym (last_is left t e) ∙ ap (λ us. get_or us (length left) e) (sym is ∙ are) ∙ at_place e e n 1 n (length left) less ∙ ap (λ j. term.Proj j n e) place)

pub whole_is : (ts left : List Term) (t u : Term) → AreAllProjections ts → ts ≡ left ++ t ∷ [] → ((i count : ℕ) (e : Term) → t ≡ term.Proj i count e → u ≡ e) → (n : ℕ) × (2 ≤ n) × (ts ≡ all_projections u n)
whole_is ts left t u all is from =
    let (e, n, two, are, last) = last_projected ts left t all is in
    (n, two, are ∙ ap (λ x. all_projections x n) (sym (from n n e last)))
