-- Terms in which a variable doesn't stand: they are shifts of terms of a shorter context.
use Rattle.std.proofs.Common.{◌≡◌, ◌≢◌, ℕ, ◌+◌, ◌-◌, ◌<◌, ◌≤◌, ◌==◌, ◌&&◌, ◌⊎◌, inl, inr, not, true, List, [], ◌∷◌, map, refl, sym, ap, ap₂, ◌∙◌, arith, true≢false}
use Rattle.type_core.specs.declared.ty.Ty.{Ty}
use Rattle.conv_terms.specs.declared.term.Term.{Term}
use Rattle.conv_terms.specs.declared.term.Term.TheVariants as term
use Rattle.conv_terms.specs.declared.term.Term.TheOpen.{Var, Lam, App, Tup, Proj}
use Rattle.conv_terms.specs.declared.term.Term.TheFolds.{fold-roll-Term}
use Rattle.conv_terms.specs.Shifting.{raised, shifted}
use Rattle.conv_terms.specs.Substitution.{substituted}
use Rattle.conv_terms.specs.Contraction.{IsExpandedBody}
use Rattle.conv_terms.specs.deciding.Depths.{is_absent, are_absent, absent_step}
use Rattle.conv_terms.proofs.Equations.{HoldOf, induct, shifted_var, shifted_lam, shifted_app, shifted_tup, shifted_proj}
use Rattle.conv_terms.proofs.Moving.{raised_low, raised_high, below_or_from, shifted_by_none, substituted_shifted}
use Rattle.conv_terms.proofs.Forms.{app_function, app_argument}
use Rattle.conv_terms.proofs.RedexFree.{left_true, right_true, both_true}

module _ (n : ℕ) where
  pub absent_var : (i : ℕ) → is_absent n (term.Var i) ≡ not (i == n)
  unfolding is_absent
  absent_var i = ap (is_absent n) (sym (term.rolls-Var i)) ∙ fold-roll-Term _ (absent_step n) (Var i)

  pub absent_lam : (a : Ty) (t : Term) → is_absent n (term.Lam a t) ≡ is_absent n t
  unfolding is_absent
  absent_lam a t = ap (is_absent n) (sym (term.rolls-Lam a t)) ∙ fold-roll-Term _ (absent_step n) (Lam a t)

  pub absent_app : (f e : Term) → is_absent n (term.App f e) ≡ (is_absent n f && is_absent n e)
  unfolding is_absent
  absent_app f e = ap (is_absent n) (sym (term.rolls-App f e)) ∙ fold-roll-Term _ (absent_step n) (App f e)

  pub absent_tup : (ts : List Term) → is_absent n (term.Tup ts) ≡ are_absent n ts
  unfolding is_absent
  absent_tup ts = ap (is_absent n) (sym (term.rolls-Tup ts)) ∙ fold-roll-Term _ (absent_step n) (Tup ts)

  pub absent_proj : (i count : ℕ) (e : Term) → is_absent n (term.Proj i count e) ≡ is_absent n e
  unfolding is_absent
  absent_proj i count e = ap (is_absent n) (sym (term.rolls-Proj i count e)) ∙ fold-roll-Term _ (absent_step n) (Proj i count e)

pub ruleset absent_at = (absent_var, absent_lam, absent_app, absent_tup, absent_proj)

other_level : (i n : ℕ) → not (i == n) ≡ true → i ≢ n
other_level i n h e = let k : (i == n) ≡ true = grind arith in true≢false (sym h ∙ ap not k)

not_level : (i n : ℕ) → i ≢ n → not (i == n) ≡ true
not_level i n h = grind arith

-- a term without variable n is a shift
abbrev Shifts : ℕ → Term → Type 0
Shifts n t = is_absent n t ≡ true → (f : Term) × (t ≡ shifted n 1 f)

pub unshifted : (n : ℕ) (t : Term) → Shifts n t
unshifted n = induct (Shifts n)
    (λ i h. variable i (other_level i n (sym (absent_var n i) ∙ h)) (below_or_from n i))
    (λ a t ih h. let (f, p) = ih (sym (absent_lam n a t) ∙ h) in (term.Lam a f, ap (term.Lam a) p ∙ sym (shifted_lam n 1 a f)))
    (λ g e ihg ihe h.
    let both : (is_absent n g && is_absent n e) ≡ true = sym (absent_app n g e) ∙ h in
    let (f, p) = ihg (left_true (is_absent n g) (is_absent n e) both) in
    let (u, q) = ihe (right_true (is_absent n g) (is_absent n e) both) in
    (term.App f u, ap₂ term.App p q ∙ sym (shifted_app n 1 f u)))
    (λ ts ihs h. let (fs, p) = all ts ihs (sym (absent_tup n ts) ∙ h) in (term.Tup fs, ap term.Tup p ∙ sym (shifted_tup n 1 fs)))
    (λ i count e ih h. let (f, p) = ih (sym (absent_proj n i count e) ∙ h) in (term.Proj i count f, ap (term.Proj i count) p ∙ sym (shifted_proj n 1 i count f)))
  where
    variable : (i : ℕ) → i ≢ n → (n < i) ⊎ (i ≤ n) → (f : Term) × (term.Var i ≡ shifted n 1 f)
    variable i ne (inl high) =
        let above : n ≤ i - 1 = omega arith in
        let back : i ≡ i - 1 + 1 = omega arith in
        (term.Var (i - 1), ap term.Var back ∙ sym (shifted_var n 1 (i - 1) ∙ ap term.Var (raised_high n 1 (i - 1) above)))
    variable i ne (inr low) =
        let below : i < n = omega arith in
        (term.Var i, sym (shifted_var n 1 i ∙ ap term.Var (raised_low n 1 i below)))

    all : (ts : List Term) → HoldOf (Shifts n) ts → are_absent n ts ≡ true → (fs : List Term) × (ts ≡ map (shifted n 1) fs)
    all [] ihs h = ([], refl)
    all (t ∷ ts) ihs h =
        let (f, p) = ihs.0 (left_true (is_absent n t) (are_absent n ts) h) in
        let (fs, q) = all ts ihs.1 (right_true (is_absent n t) (are_absent n ts) h) in
        (f ∷ fs, ap₂ ◌∷◌ p q)

-- and in a shift the variable doesn't stand
pub absent_shifted : (n : ℕ) (t : Term) → is_absent n (shifted n 1 t) ≡ true
absent_shifted n = induct (λ t. is_absent n (shifted n 1 t) ≡ true)
    (λ i. ap (is_absent n) (shifted_var n 1 i) ∙ absent_var n (raised n 1 i) ∙ not_level (raised n 1 i) n (apart i (below_or_from i n)))
    (λ a t ih. ap (is_absent n) (shifted_lam n 1 a t) ∙ absent_lam n a _ ∙ ih)
    (λ f e ihf ihe. ap (is_absent n) (shifted_app n 1 f e) ∙ absent_app n _ _ ∙ both_true _ _ ihf ihe)
    (λ ts ihs. ap (is_absent n) (shifted_tup n 1 ts) ∙ absent_tup n _ ∙ all ts ihs)
    (λ i count e ih. ap (is_absent n) (shifted_proj n 1 i count e) ∙ absent_proj n i count _ ∙ ih)
  where
    apart : (i : ℕ) → (i < n) ⊎ (n ≤ i) → raised n 1 i ≢ n
    apart i (inl h) e = let p : i ≡ n = sym (raised_low n 1 i h) ∙ e in omega arith
    apart i (inr h) e = let p : i + 1 ≡ n = sym (raised_high n 1 i h) ∙ e in omega arith

    all : (ts : List Term) → HoldOf (λ t. is_absent n (shifted n 1 t) ≡ true) ts → are_absent n (map (shifted n 1) ts) ≡ true
    all [] ihs = refl
    all (t ∷ ts) ihs = both_true _ _ ihs.0 (all ts ihs.1)

-- of one term alone
pub one_unshifted : (n : ℕ) (f g : Term) → shifted n 1 f ≡ shifted n 1 g → f ≡ g
one_unshifted n f g h = sym (back f) ∙ ap (substituted n (term.Var 0)) h ∙ back g
  where
    back : (t : Term) → substituted n (term.Var 0) (shifted n 1 t) ≡ t
    back t =
        let low : n ≤ n = omega arith in
        let high : n ≤ n + 0 = omega arith in
        substituted_shifted n 0 (term.Var 0) n 0 t low high ∙ shifted_by_none t n

-- bodies of abstractions that contract
pub expanded : (n : ℕ) (f e : Term) → e ≡ term.Var n → is_absent n f ≡ true → IsExpandedBody n (term.App f e)
expanded n f e is absent = let (g, p) = unshifted n f absent in (g, ap₂ term.App p is)

pub expanded_parts : (n : ℕ) (f e : Term) → IsExpandedBody n (term.App f e) → (e ≡ term.Var n) × (is_absent n f ≡ true)
expanded_parts n f e (g, p) = (app_argument f e (shifted n 1 g) (term.Var n) p, ap (is_absent n) (app_function f e (shifted n 1 g) (term.Var n) p) ∙ absent_shifted n g)

-- nor does it stand in a part of a term in which it doesn't stand
module _ (n : ℕ) (u : Term) (absent : is_absent n u ≡ true) where
  pub absent_in_body : (a : Ty) (t v : Term) → u ≡ term.Lam a t → v ≡ t → is_absent n v ≡ true
  absent_in_body a t v is same = ap (is_absent n) same ∙ sym (absent_lam n a t) ∙ sym (ap (is_absent n) is) ∙ absent

  pub absent_in_function : (f e v : Term) → u ≡ term.App f e → v ≡ f → is_absent n v ≡ true
  absent_in_function f e v is same = ap (is_absent n) same ∙ left_true (is_absent n f) (is_absent n e) (sym (absent_app n f e) ∙ sym (ap (is_absent n) is) ∙ absent)

  pub absent_in_argument : (f e v : Term) → u ≡ term.App f e → v ≡ e → is_absent n v ≡ true
  absent_in_argument f e v is same = ap (is_absent n) same ∙ right_true (is_absent n f) (is_absent n e) (sym (absent_app n f e) ∙ sym (ap (is_absent n) is) ∙ absent)

  pub absent_in_components : (ts : List Term) → u ≡ term.Tup ts → are_absent n ts ≡ true
  absent_in_components ts is = sym (absent_tup n ts) ∙ sym (ap (is_absent n) is) ∙ absent

  pub absent_in_tuple : (i count : ℕ) (e v : Term) → u ≡ term.Proj i count e → v ≡ e → is_absent n v ≡ true
  absent_in_tuple i count e v is same = ap (is_absent n) same ∙ sym (absent_proj n i count e) ∙ sym (ap (is_absent n) is) ∙ absent
