-- Terms without redexes, as a test: no beta redex and no projection of n from a tuple of n components.
use Rattle.std.proofs.Common.{◌≡◌, ℕ, ◌==◌, ◌&&◌, not, Bool, true, false, List, [], ◌∷◌, map, refl, sym, ap, ap₂, ◌∙◌, Some, slice_get, true≢false, zero, suc}
use Rattle.std.proofs.lemmas.List.{length-map}
use Rattle.type_core.specs.declared.ty.Ty.{Ty}
use Rattle.conv_terms.specs.declared.term.Term.{Term}
use Rattle.conv_terms.specs.declared.term.Term.TheVariants as term
use Rattle.conv_terms.specs.declared.term.Term.TheOpen.{Term-F, Var, Lam, App, Tup, Proj}
use Rattle.conv_terms.specs.declared.term.Term.TheFolds.{para-Term, para-roll-Term}
use Rattle.conv_terms.specs.Shifting.{shifted}
use Rattle.conv_terms.specs.LongForm.{abstraction_form, is_abstraction, tuple_form, is_tuple_of}
use Rattle.conv_terms.proofs.Equations.{HoldOf, induct, shifted_var, shifted_lam, shifted_app, shifted_tup, shifted_proj}
use Rattle.conv_terms.proofs.Forms.{some_is, none_not, out_var, out_lam, out_app, out_tup, out_proj}

abbrev all_redex_free : List (Term × Bool) → Bool
all_redex_free [] = true
all_redex_free (p ∷ ps) = p.1 && all_redex_free ps

abbrev redex_free_step : Term-F (Term × Bool) → Bool
redex_free_step (Var n) = true
redex_free_step (Lam a t) = t.1
redex_free_step (App f e) = not (is_abstraction f.0) && (f.1 && e.1)
redex_free_step (Tup ts) = all_redex_free ts
redex_free_step (Proj i n e) = not (is_tuple_of n e.0) && e.1

unfoldable pub is_redex_free : Term → Bool
is_redex_free = para-Term Bool redex_free_step

abbrev pub are_redex_free : List Term → Bool
are_redex_free [] = true
are_redex_free (t ∷ ts) = is_redex_free t && are_redex_free ts

each_free : (ts : List Term) → all_redex_free (map (λ t. (t, is_redex_free t)) ts) ≡ are_redex_free ts
each_free [] = refl
each_free (t ∷ ts) = ap (λ b. is_redex_free t && b) (each_free ts)

pub free_var : (n : ℕ) → is_redex_free (term.Var n) ≡ true
unfolding is_redex_free
free_var n = ap is_redex_free (sym (term.rolls-Var n)) ∙ para-roll-Term _ redex_free_step (Var n)

pub free_lam : (a : Ty) (t : Term) → is_redex_free (term.Lam a t) ≡ is_redex_free t
unfolding is_redex_free
free_lam a t = ap is_redex_free (sym (term.rolls-Lam a t)) ∙ para-roll-Term _ redex_free_step (Lam a t)

pub free_app : (f e : Term) → is_redex_free (term.App f e) ≡ (not (is_abstraction f) && (is_redex_free f && is_redex_free e))
unfolding is_redex_free
free_app f e = ap is_redex_free (sym (term.rolls-App f e)) ∙ para-roll-Term _ redex_free_step (App f e)

free_tup_each : (ts : List Term) → is_redex_free (term.Tup ts) ≡ all_redex_free (map (λ t. (t, is_redex_free t)) ts)
unfolding is_redex_free
free_tup_each ts = ap is_redex_free (sym (term.rolls-Tup ts)) ∙ para-roll-Term _ redex_free_step (Tup ts)

pub free_tup : (ts : List Term) → is_redex_free (term.Tup ts) ≡ are_redex_free ts
free_tup ts = free_tup_each ts ∙ each_free ts

pub free_proj : (i n : ℕ) (e : Term) → is_redex_free (term.Proj i n e) ≡ (not (is_tuple_of n e) && is_redex_free e)
unfolding is_redex_free
free_proj i n e = ap is_redex_free (sym (term.rolls-Proj i n e)) ∙ para-roll-Term _ redex_free_step (Proj i n e)

pub left_true : (a b : Bool) → (a && b) ≡ true → a ≡ true
left_true true b h = refl
left_true false b h = h

pub right_true : (a b : Bool) → (a && b) ≡ true → b ≡ true
right_true true b h = h
right_true false b h = absurd (true≢false (sym h))

pub both_true : (a b : Bool) → a ≡ true → b ≡ true → (a && b) ≡ true
both_true a b h k = ap₂ ◌&&◌ h k

pub free_at : (ts : List Term) (i : ℕ) (t : Term) → are_redex_free ts ≡ true → slice_get ts i ≡ Some t → is_redex_free t ≡ true
free_at [] i t h l = absurd (none_not t l)
free_at (x ∷ ts) zero t h l = sym (ap is_redex_free (some_is x t l)) ∙ left_true (is_redex_free x) (are_redex_free ts) h
free_at (x ∷ ts) (suc i) t h l = free_at ts i t (right_true (is_redex_free x) (are_redex_free ts) h) l

pub not_true : (b : Bool) → not b ≡ true → b ≡ false
not_true true h = sym h
not_true false h = refl

-- a shift makes no redex
pub lam_shifted : (from by : ℕ) (t : Term) → is_abstraction (shifted from by t) ≡ is_abstraction t
lam_shifted from by = induct (λ t. is_abstraction (shifted from by t) ≡ is_abstraction t)
    (λ n. ap is_abstraction (shifted_var from by n) ∙ ap abstraction_form (out_var _) ∙ sym (ap abstraction_form (out_var n)))
    (λ a t _. ap is_abstraction (shifted_lam from by a t) ∙ ap abstraction_form (out_lam a _) ∙ sym (ap abstraction_form (out_lam a t)))
    (λ f e _ _. ap is_abstraction (shifted_app from by f e) ∙ ap abstraction_form (out_app _ _) ∙ sym (ap abstraction_form (out_app f e)))
    (λ ts _. ap is_abstraction (shifted_tup from by ts) ∙ ap abstraction_form (out_tup _) ∙ sym (ap abstraction_form (out_tup ts)))
    (λ i n e _. ap is_abstraction (shifted_proj from by i n e) ∙ ap abstraction_form (out_proj i n _) ∙ sym (ap abstraction_form (out_proj i n e)))

pub tup_shifted : (from by m : ℕ) (t : Term) → is_tuple_of m (shifted from by t) ≡ is_tuple_of m t
tup_shifted from by m = induct (λ t. is_tuple_of m (shifted from by t) ≡ is_tuple_of m t)
    (λ n. ap (is_tuple_of m) (shifted_var from by n) ∙ ap (tuple_form m) (out_var _) ∙ sym (ap (tuple_form m) (out_var n)))
    (λ a t _. ap (is_tuple_of m) (shifted_lam from by a t) ∙ ap (tuple_form m) (out_lam a _) ∙ sym (ap (tuple_form m) (out_lam a t)))
    (λ f e _ _. ap (is_tuple_of m) (shifted_app from by f e) ∙ ap (tuple_form m) (out_app _ _) ∙ sym (ap (tuple_form m) (out_app f e)))
    (λ ts _. ap (is_tuple_of m) (shifted_tup from by ts) ∙ ap (tuple_form m) (out_tup _) ∙ ap (λ k. k == m) (length-map ts (shifted from by)) ∙ sym (ap (tuple_form m) (out_tup ts)))
    (λ i n e _. ap (is_tuple_of m) (shifted_proj from by i n e) ∙ ap (tuple_form m) (out_proj i n _) ∙ sym (ap (tuple_form m) (out_proj i n e)))

pub free_shifted : (from by : ℕ) (t : Term) → is_redex_free (shifted from by t) ≡ is_redex_free t
free_shifted from by = induct (λ t. is_redex_free (shifted from by t) ≡ is_redex_free t)
    (λ n. ap is_redex_free (shifted_var from by n) ∙ free_var _ ∙ sym (free_var n))
    (λ a t ih. ap is_redex_free (shifted_lam from by a t) ∙ free_lam a _ ∙ ih ∙ sym (free_lam a t))
    (λ f e ihf ihe. ap is_redex_free (shifted_app from by f e) ∙ free_app _ _ ∙ ap₂ (λ l r. not l && r) (lam_shifted from by f) (ap₂ ◌&&◌ ihf ihe) ∙ sym (free_app f e))
    (λ ts ihs. ap is_redex_free (shifted_tup from by ts) ∙ free_tup _ ∙ all ts ihs ∙ sym (free_tup ts))
    (λ i n e ih. ap is_redex_free (shifted_proj from by i n e) ∙ free_proj i n _ ∙ ap₂ (λ l r. not l && r) (tup_shifted from by n e) ih ∙ sym (free_proj i n e))
  where
    all : (ts : List Term) → HoldOf (λ t. is_redex_free (shifted from by t) ≡ is_redex_free t) ts → are_redex_free (map (shifted from by) ts) ≡ are_redex_free ts
    all [] ihs = refl
    all (t ∷ ts) ihs = ap₂ ◌&&◌ ihs.0 (all ts ihs.1)
