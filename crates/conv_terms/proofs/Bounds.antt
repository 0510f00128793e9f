-- How far the levels of a term go after shifting and after substitution.
use Rattle.std.proofs.Common.{◌≡◌, ℕ, ◌+◌, ◌-◌, ◌≤◌, ◌<◌, ◌⊎◌, inl, inr, max, List, [], ◌∷◌, map, sym, ap, ◌∙◌, subst, subst₂, arith}
use Rattle.conv_terms.specs.declared.term.Term.{Term}
use Rattle.conv_terms.specs.Levels.{levels, levels_of_all, nesting, nesting_of_all}
use Rattle.conv_terms.specs.Shifting.{raised, shifted}
use Rattle.conv_terms.specs.Substitution.{traversed, each_below, image, substituted}
use Rattle.conv_terms.proofs.Equations.{HoldOf, induct, shifted_var, shifted_lam, shifted_app, shifted_tup, shifted_proj, traversed_var, traversed_lam, traversed_app, traversed_tup, traversed_proj, levels_var, levels_lam, levels_app, levels_tup, levels_proj, nesting_var, nesting_lam, nesting_app, nesting_tup, nesting_proj}
use Rattle.conv_terms.proofs.Moving.{image_low, image_same, image_high, below_or_from}

raised_bound : (from by n : ℕ) → raised from by n + 1 ≤ n + 1 + by
raised_bound from by n = grind arith

greater_bound : (x y u v by : ℕ) → x ≤ u + by → y ≤ v + by → max x y ≤ max u v + by
greater_bound x y u v by h i = grind arith

abbrev Bounded : ℕ → ℕ → Term → Type 0
Bounded from by t = levels (shifted from by t) ≤ levels t + by

pub shifted_levels : (from by : ℕ) (t : Term) → levels (shifted from by t) ≤ levels t + by
shifted_levels from by = induct (Bounded from by)
    (λ n. subst₂ (λ x y. x ≤ y + by) (sym (ap levels (shifted_var from by n) ∙ levels_var _)) (sym (levels_var n)) (raised_bound from by n))
    (λ a t ih. subst₂ (λ x y. x ≤ y + by) (sym (ap levels (shifted_lam from by a t) ∙ levels_lam a _)) (sym (levels_lam a t)) ih)
    (λ f e ihf ihe. subst₂ (λ x y. x ≤ y + by) (sym (ap levels (shifted_app from by f e) ∙ levels_app _ _)) (sym (levels_app f e)) (greater_bound _ _ _ _ by ihf ihe))
    (λ ts ihs. subst₂ (λ x y. x ≤ y + by) (sym (ap levels (shifted_tup from by ts) ∙ levels_tup _)) (sym (levels_tup ts)) (all ts ihs))
    (λ i n e ih. subst₂ (λ x y. x ≤ y + by) (sym (ap levels (shifted_proj from by i n e) ∙ levels_proj i n _)) (sym (levels_proj i n e)) ih)
  where
    all : (ts : List Term) → HoldOf (Bounded from by) ts → levels_of_all (map (shifted from by) ts) ≤ levels_of_all ts + by
    all [] ihs = omega arith
    all (t ∷ ts) ihs = greater_bound _ _ _ _ by ihs.0 (all ts ihs.1)

-- the bound below so many binders
abbrev limit : ℕ → ℕ → ℕ → ℕ → ℕ
limit end inserted nested depth = max end (inserted + depth + nested)

low_bound : (n k l d : ℕ) → n + 1 ≤ limit (n + 1) l k d
low_bound n k l d = grind arith

high_bound : (n k l d : ℕ) → n - 1 + 1 ≤ limit (n + 1) l k d
high_bound n k l d = grind arith

same_bound : (n k l d x : ℕ) → x ≤ l + d → x ≤ limit n l k d
same_bound n k l d x h = grind arith

under_bound : (n k l d x : ℕ) → x ≤ limit n l k (d + 1) → x ≤ limit n l (k + 1) d
under_bound n k l d x h = grind arith

both_bound : (x y n m k j l d : ℕ) → x ≤ limit n l k d → y ≤ limit m l j d → max x y ≤ limit (max n m) l (max k j) d
both_bound x y n m k j l d h i = grind arith

module _ (level : ℕ) (by : Term) where
  abbrev Limited : Term → Type 0
  Limited t = (d : ℕ) → levels (traversed (image level by) t d) ≤ limit (levels t) (levels by) (nesting t) d

  image_levels : (n d : ℕ) → levels (image level by n d) ≤ limit (n + 1) (levels by) 0 d
  image_levels n d = cases (below_or_from n level) (below_or_from level n)
    where
      cases : (n < level) ⊎ (level ≤ n) → (level < n) ⊎ (n ≤ level) → levels (image level by n d) ≤ limit (n + 1) (levels by) 0 d
      cases (inl h) _ = subst (λ x. x ≤ limit (n + 1) (levels by) 0 d) (sym (ap levels (image_low level by n d h) ∙ levels_var n)) (low_bound n 0 (levels by) d)
      cases (inr h) (inl i) = subst (λ x. x ≤ limit (n + 1) (levels by) 0 d) (sym (ap levels (image_high level by n d i) ∙ levels_var (n - 1))) (high_bound n 0 (levels by) d)
      cases (inr h) (inr i) =
          let exact : level ≡ n = omega arith in
          subst (λ m. levels (image level by m d) ≤ limit (n + 1) (levels by) 0 d) exact
          (subst (λ x. x ≤ limit (n + 1) (levels by) 0 d) (sym (ap levels (image_same level by d))) (same_bound (n + 1) 0 (levels by) d _ (shifted_levels level d by)))

  at_form : (x n k d : ℕ) (t u : Term) → levels u ≡ x → levels t ≡ n → nesting t ≡ k → x ≤ limit n (levels by) k d → levels u ≤ limit (levels t) (levels by) (nesting t) d
  at_form x n k d t u p q r h = subst (λ y. y ≤ limit (levels t) (levels by) (nesting t) d) (sym p) (subst₂ (λ y z. x ≤ limit y (levels by) z d) (sym q) (sym r) h)

  pub traversed_levels : (t : Term) (d : ℕ) → levels (traversed (image level by) t d) ≤ limit (levels t) (levels by) (nesting t) d
  traversed_levels = induct Limited
      (λ n d. at_form _ _ _ d _ _ (ap levels (traversed_var (image level by) n d)) (levels_var n) (nesting_var n) (image_levels n d))
      (λ a t ih d. at_form _ _ _ d _ _ (ap levels (traversed_lam (image level by) a t d) ∙ levels_lam a _) (levels_lam a t) (nesting_lam a t) (under_bound _ _ _ d _ (ih (d + 1))))
      (λ f e ihf ihe d. at_form _ _ _ d _ _ (ap levels (traversed_app (image level by) f e d) ∙ levels_app _ _) (levels_app f e) (nesting_app f e) (both_bound _ _ _ _ _ _ _ d (ihf d) (ihe d)))
      (λ ts ihs d. at_form _ _ _ d _ _ (ap levels (traversed_tup (image level by) ts d) ∙ levels_tup _) (levels_tup ts) (nesting_tup ts) (all ts ihs d))
      (λ i n e ih d. at_form _ _ _ d _ _ (ap levels (traversed_proj (image level by) i n e d) ∙ levels_proj i n _) (levels_proj i n e) (nesting_proj i n e) (ih d))
    where
      all : (ts : List Term) → HoldOf Limited ts → (d : ℕ) → levels_of_all (each_below (map (traversed (image level by)) ts) d) ≤ limit (levels_of_all ts) (levels by) (nesting_of_all ts) d
      all [] ihs d = omega arith
      all (t ∷ ts) ihs d = both_bound _ _ _ _ _ _ _ d (ihs.0 d) (all ts ihs.1 d)

pub substituted_levels : (level : ℕ) (e t : Term) → levels (substituted level e t) ≤ max (levels t) (levels e + nesting t)
substituted_levels level e t =
    let none : levels e + 0 + nesting t ≡ levels e + nesting t = omega arith in
    subst (λ x. levels (substituted level e t) ≤ max (levels t) x) none (traversed_levels level e t 0)
