-- The equations of the definitions at each form of term, and induction on terms.
use Rattle.std.proofs.Common.{◌≡◌, ℕ, ◌+◌, max, List, [], ◌∷◌, map, sym, ap, ◌∙◌, subst}
use Rattle.type_core.specs.declared.ty.Ty.{Ty}
use Rattle.conv_terms.specs.declared.term.Term.{Term}
use Rattle.conv_terms.specs.declared.term.Term.TheVariants as term
use Rattle.conv_terms.specs.declared.term.Term.TheVariants.{rolls-Var, rolls-Lam, rolls-App, rolls-Tup, rolls-Proj}
use Rattle.conv_terms.specs.declared.term.Term.TheOpen.{Term-F, Var, Lam, App, Tup, Proj}
use Rattle.conv_terms.specs.declared.term.Term.TheViews.{roll-Term}
use Rattle.conv_terms.specs.declared.term.Term.TheFolds.{fold-roll-Term, map-Term, ind-Term}
use Rattle.conv_terms.specs.Levels.{levels, levels_step, levels_of_all, nesting, nesting_step, nesting_of_all}
use Rattle.conv_terms.specs.Shifting.{raised, shifted, shift_step}
use Rattle.conv_terms.specs.Substitution.{Images, traversed, traverse_step, each_below}

-- shifting
module _ (from by : ℕ) where
  pub shifted_var : (n : ℕ) → shifted from by (term.Var n) ≡ term.Var (raised from by n)
  unfolding shifted
  shifted_var n = ap (shifted from by) (sym (rolls-Var n)) ∙ fold-roll-Term _ (shift_step from by) (Var n)

  pub shifted_lam : (a : Ty) (t : Term) → shifted from by (term.Lam a t) ≡ term.Lam a (shifted from by t)
  unfolding shifted
  shifted_lam a t = ap (shifted from by) (sym (rolls-Lam a t)) ∙ fold-roll-Term _ (shift_step from by) (Lam a t)

  pub shifted_app : (f e : Term) → shifted from by (term.App f e) ≡ term.App (shifted from by f) (shifted from by e)
  unfolding shifted
  shifted_app f e = ap (shifted from by) (sym (rolls-App f e)) ∙ fold-roll-Term _ (shift_step from by) (App f e)

  pub shifted_tup : (ts : List Term) → shifted from by (term.Tup ts) ≡ term.Tup (map (shifted from by) ts)
  unfolding shifted
  shifted_tup ts = ap (shifted from by) (sym (rolls-Tup ts)) ∙ fold-roll-Term _ (shift_step from by) (Tup ts)

  pub shifted_proj : (i n : ℕ) (e : Term) → shifted from by (term.Proj i n e) ≡ term.Proj i n (shifted from by e)
  unfolding shifted
  shifted_proj i n e = ap (shifted from by) (sym (rolls-Proj i n e)) ∙ fold-roll-Term _ (shift_step from by) (Proj i n e)

pub ruleset shifted_at = (shifted_var, shifted_lam, shifted_app, shifted_tup, shifted_proj)

-- traversing
module _ (at : Images) where
  pub traversed_var : (n d : ℕ) → traversed at (term.Var n) d ≡ at n d
  unfolding traversed
  traversed_var n d = ap (λ t. traversed at t d) (sym (rolls-Var n)) ∙ ap (λ g. g d) (fold-roll-Term _ (traverse_step at) (Var n))

  pub traversed_lam : (a : Ty) (t : Term) (d : ℕ) → traversed at (term.Lam a t) d ≡ term.Lam a (traversed at t (d + 1))
  unfolding traversed
  traversed_lam a t d = ap (λ t. traversed at t d) (sym (rolls-Lam a t)) ∙ ap (λ g. g d) (fold-roll-Term _ (traverse_step at) (Lam a t))

  pub traversed_app : (f e : Term) (d : ℕ) → traversed at (term.App f e) d ≡ term.App (traversed at f d) (traversed at e d)
  unfolding traversed
  traversed_app f e d = ap (λ t. traversed at t d) (sym (rolls-App f e)) ∙ ap (λ g. g d) (fold-roll-Term _ (traverse_step at) (App f e))

  pub traversed_tup : (ts : List Term) (d : ℕ) → traversed at (term.Tup ts) d ≡ term.Tup (each_below (map (traversed at) ts) d)
  unfolding traversed
  traversed_tup ts d = ap (λ t. traversed at t d) (sym (rolls-Tup ts)) ∙ ap (λ g. g d) (fold-roll-Term _ (traverse_step at) (Tup ts))

  pub traversed_proj : (i n : ℕ) (e : Term) (d : ℕ) → traversed at (term.Proj i n e) d ≡ term.Proj i n (traversed at e d)
  unfolding traversed
  traversed_proj i n e d = ap (λ t. traversed at t d) (sym (rolls-Proj i n e)) ∙ ap (λ g. g d) (fold-roll-Term _ (traverse_step at) (Proj i n e))

pub ruleset traversed_at = (traversed_var, traversed_lam, traversed_app, traversed_tup, traversed_proj)

-- levels
pub levels_var : (n : ℕ) → levels (term.Var n) ≡ n + 1
unfolding levels
levels_var n = ap levels (sym (rolls-Var n)) ∙ fold-roll-Term _ levels_step (Var n)

pub levels_lam : (a : Ty) (t : Term) → levels (term.Lam a t) ≡ levels t
unfolding levels
levels_lam a t = ap levels (sym (rolls-Lam a t)) ∙ fold-roll-Term _ levels_step (Lam a t)

pub levels_app : (f e : Term) → levels (term.App f e) ≡ max (levels f) (levels e)
unfolding levels
levels_app f e = ap levels (sym (rolls-App f e)) ∙ fold-roll-Term _ levels_step (App f e)

pub levels_tup : (ts : List Term) → levels (term.Tup ts) ≡ levels_of_all ts
unfolding levels
levels_tup ts = ap levels (sym (rolls-Tup ts)) ∙ fold-roll-Term _ levels_step (Tup ts)

pub levels_proj : (i n : ℕ) (e : Term) → levels (term.Proj i n e) ≡ levels e
unfolding levels
levels_proj i n e = ap levels (sym (rolls-Proj i n e)) ∙ fold-roll-Term _ levels_step (Proj i n e)

pub ruleset levels_at = (levels_var, levels_lam, levels_app, levels_tup, levels_proj)

-- nesting
pub nesting_var : (n : ℕ) → nesting (term.Var n) ≡ 0
unfolding nesting
nesting_var n = ap nesting (sym (rolls-Var n)) ∙ fold-roll-Term _ nesting_step (Var n)

pub nesting_lam : (a : Ty) (t : Term) → nesting (term.Lam a t) ≡ nesting t + 1
unfolding nesting
nesting_lam a t = ap nesting (sym (rolls-Lam a t)) ∙ fold-roll-Term _ nesting_step (Lam a t)

pub nesting_app : (f e : Term) → nesting (term.App f e) ≡ max (nesting f) (nesting e)
unfolding nesting
nesting_app f e = ap nesting (sym (rolls-App f e)) ∙ fold-roll-Term _ nesting_step (App f e)

pub nesting_tup : (ts : List Term) → nesting (term.Tup ts) ≡ nesting_of_all ts
unfolding nesting
nesting_tup ts = ap nesting (sym (rolls-Tup ts)) ∙ fold-roll-Term _ nesting_step (Tup ts)

pub nesting_proj : (i n : ℕ) (e : Term) → nesting (term.Proj i n e) ≡ nesting e
unfolding nesting
nesting_proj i n e = ap nesting (sym (rolls-Proj i n e)) ∙ fold-roll-Term _ nesting_step (Proj i n e)

pub ruleset nesting_at = (nesting_var, nesting_lam, nesting_app, nesting_tup, nesting_proj)

-- P holds of each of the terms
abbrev pub HoldOf : (Term → Type 0) → List Term → Type 0
HoldOf P [] = Unit {0}
HoldOf P (t ∷ ts) = P t × HoldOf P ts

hold_of : (P : Term → Type 0) (es : List ((t : Term) × P t)) → HoldOf P (map (λ e. e.0) es)
hold_of P [] = tt
hold_of P (e ∷ es) = (e.1, hold_of P es)

pub induct : (P : Term → Type 0)
    → ((n : ℕ) → P (term.Var n))
    → ((a : Ty) (t : Term) → P t → P (term.Lam a t))
    → ((f e : Term) → P f → P e → P (term.App f e))
    → ((ts : List Term) → HoldOf P ts → P (term.Tup ts))
    → ((i n : ℕ) (e : Term) → P e → P (term.Proj i n e))
    → (t : Term) → P t
induct P on_var on_lam on_app on_tup on_proj = ind-Term P (λ x y is. subst (λ z. P (roll-Term z)) is (level y))
  where
    level : (y : Term-F ((t : Term) × P t)) → P (roll-Term (map-Term _ _ (λ e. e.0) y))
    level (Var n) = subst P (sym (rolls-Var n)) (on_var n)
    level (Lam a e) = subst P (sym (rolls-Lam a e.0)) (on_lam a e.0 e.1)
    level (App f e) = subst P (sym (rolls-App f.0 e.0)) (on_app f.0 e.0 f.1 e.1)
    level (Tup es) = subst P (sym (rolls-Tup (map (λ e. e.0) es))) (on_tup (map (λ e. e.0) es) (hold_of P es))
    level (Proj i n e) = subst P (sym (rolls-Proj i n e.0)) (on_proj i n e.0 e.1)
