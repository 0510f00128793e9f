-- What a short normal term of each form is made of.
use Rattle.std.proofs.Common.{◌≡◌, ℕ, ◌+◌, ◌<◌, ◌≤◌, ◌^◌, inl, inr, ◌↔◌, not, Bool, true, false, List, ◌∷◌, length, drop, get_or, refl, sym, ap, ap₂, ◌∙◌, subst, drop-cons, arith, true≢false, suc, add-one}
use Rattle.std.proofs.Math.ListN.{drop_of_length-le}
use Rattle.type_core.specs.declared.ty.Ty.{Ty}
use Rattle.conv_terms.specs.declared.term.Term.{Term, out-Term}
use Rattle.conv_terms.specs.declared.term.Term.TheVariants as term
use Rattle.conv_terms.specs.declared.term.Term.TheOpen.{Term-F, Var, Lam, App, Tup, Proj}
use Rattle.conv_terms.specs.LongForm.{is_abstraction, is_tuple_of}
use Rattle.conv_terms.specs.Contraction.{IsExpandedBody, AreAllProjections}
use Rattle.conv_terms.specs.ShortNormal.{IsShortNormal, AreShortNormal}
use Rattle.conv_terms.specs.deciding.Depths.{IsDepth, is_absent}
use Rattle.conv_terms.proofs.Forms.{out_var, out_lam, out_app, out_tup, out_proj}
use Rattle.conv_terms.proofs.Lowering.{expanded, expanded_parts}

abbrev Premises : ℕ → Term-F Term → Type 0
Premises n (Var i) = Unit {0}
Premises n (Lam a t) = (¬ (IsExpandedBody n t)) × IsShortNormal (n + 1) t
Premises n (App f e) = (is_abstraction f ≡ false) × IsShortNormal n f × IsShortNormal n e
Premises n (Tup ts) = (¬ (AreAllProjections ts)) × AreShortNormal n ts
Premises n (Proj i count e) = (is_tuple_of count e ≡ false) × IsShortNormal n e

inverted : {n : ℕ} {t : Term} → IsShortNormal n t → Premises n (out-Term t)
inverted {n = n} (IsShortNormal.var i) = subst (Premises n) (sym (out_var i)) tt
inverted {n = n} (IsShortNormal.lam a t lacks k) = subst (Premises n) (sym (out_lam a t)) (lacks, k)
inverted {n = n} (IsShortNormal.app f e lacks k l) = subst (Premises n) (sym (out_app f e)) (lacks, k, l)
inverted {n = n} (IsShortNormal.tup ts lacks ks) = subst (Premises n) (sym (out_tup ts)) (lacks, ks)
inverted {n = n} (IsShortNormal.proj i count e lacks k) = subst (Premises n) (sym (out_proj i count e)) (lacks, k)

module _ (n : ℕ) where
  pub of_lam : (a : Ty) (t : Term) → IsShortNormal n (term.Lam a t) → (¬ (IsExpandedBody n t)) × IsShortNormal (n + 1) t
  of_lam a t k = subst (Premises n) (out_lam a t) (inverted k)

  pub of_app : (f e : Term) → IsShortNormal n (term.App f e) → (is_abstraction f ≡ false) × IsShortNormal n f × IsShortNormal n e
  of_app f e k = subst (Premises n) (out_app f e) (inverted k)

  pub of_tup : (ts : List Term) → IsShortNormal n (term.Tup ts) → (¬ (AreAllProjections ts)) × AreShortNormal n ts
  of_tup ts k = subst (Premises n) (out_tup ts) (inverted k)

  pub of_proj : (i count : ℕ) (e : Term) → IsShortNormal n (term.Proj i count e) → (is_tuple_of count e ≡ false) × IsShortNormal n e
  of_proj i count e k = subst (Premises n) (out_proj i count e) (inverted k)

  -- what is answered for each form, by the answers for its parts
  pub var_answer : (i : ℕ) (u : Term) → u ≡ term.Var i → IsShortNormal n u
  var_answer i u is = subst (IsShortNormal n) (sym is) (IsShortNormal.var i)

  pub lam_answer : (a : Ty) (t u g w : Term) (x r : Bool) → u ≡ term.Lam a t → g ≡ t → w ≡ t → x ≡ false → (x ≡ true) ↔ IsExpandedBody n g → (r ≡ true) ↔ IsShortNormal (n + 1) w → (r ≡ true) ↔ IsShortNormal n u
  lam_answer a t u g w x r is g_is w_is lacks expanded short = (
    (λ h. subst (IsShortNormal n) (sym is) (IsShortNormal.lam a t (λ e. true≢false (sym (expanded.1 (subst (IsExpandedBody n) (sym g_is) e)) ∙ lacks)) (subst (IsShortNormal (n + 1)) w_is (short.0 h)))),
    (λ k. short.1 (subst (IsShortNormal (n + 1)) (sym w_is) (of_lam a t (subst (IsShortNormal n) is k)).1)),
  )

  pub lam_refused : (a : Ty) (t u g : Term) (x : Bool) → u ≡ term.Lam a t → g ≡ t → x ≡ true → (x ≡ true) ↔ IsExpandedBody n g → (not x ≡ true) ↔ IsShortNormal n u
  lam_refused a t u g x is g_is holds expanded = (
    (λ h. absurd (true≢false (sym h ∙ ap not holds))),
    (λ k. absurd ((of_lam a t (subst (IsShortNormal n) is k)).0 (subst (IsExpandedBody n) g_is (expanded.0 holds)))),
  )

  pub app_answer : (f e u g h w : Term) (x p r : Bool) → u ≡ term.App f e → g ≡ f → h ≡ f → w ≡ e → x ≡ false → x ≡ is_abstraction g → p ≡ true → (p ≡ true) ↔ IsShortNormal n h → (r ≡ true) ↔ IsShortNormal n w → (r ≡ true) ↔ IsShortNormal n u
  app_answer f e u g h w x p r is g_is h_is w_is lacks tested holds function short = (
    (λ q. subst (IsShortNormal n) (sym is) (IsShortNormal.app f e (ap is_abstraction (sym g_is) ∙ sym tested ∙ lacks) (subst (IsShortNormal n) h_is (function.0 holds)) (subst (IsShortNormal n) w_is (short.0 q)))),
    (λ k. short.1 (subst (IsShortNormal n) (sym w_is) (of_app f e (subst (IsShortNormal n) is k)).2)),
  )

  pub tup_answer : (ts seen terms : List Term) (u : Term) (x r : Bool) → u ≡ term.Tup ts → seen ≡ ts → terms ≡ ts → x ≡ false → (x ≡ true) ↔ AreAllProjections seen → (r ≡ true) ↔ AreShortNormal n terms → (r ≡ true) ↔ IsShortNormal n u
  tup_answer ts seen terms u x r is seen_is terms_are lacks projected short = (
    (λ h. subst (IsShortNormal n) (sym is) (IsShortNormal.tup ts (λ p. true≢false (sym (projected.1 (subst AreAllProjections (sym seen_is) p)) ∙ lacks)) (subst (AreShortNormal n) terms_are (short.0 h)))),
    (λ k. short.1 (subst (AreShortNormal n) (sym terms_are) (of_tup ts (subst (IsShortNormal n) is k)).1)),
  )

  pub proj_answer : (i count : ℕ) (e u g w : Term) (x r : Bool) → u ≡ term.Proj i count e → g ≡ e → w ≡ e → x ≡ false → x ≡ is_tuple_of count g → (r ≡ true) ↔ IsShortNormal n w → (r ≡ true) ↔ IsShortNormal n u
  proj_answer i count e u g w x r is g_is w_is lacks tested short = (
    (λ h. subst (IsShortNormal n) (sym is) (IsShortNormal.proj i count e (ap (is_tuple_of count) (sym g_is) ∙ sym tested ∙ lacks) (subst (IsShortNormal n) w_is (short.0 h)))),
    (λ k. short.1 (subst (IsShortNormal n) (sym w_is) (of_proj i count e (subst (IsShortNormal n) is k)).1)),
  )

-- terms one after the other
pub heads : {n : ℕ} {t : Term} {ts : List Term} → AreShortNormal n (t ∷ ts) → IsShortNormal n t × AreShortNormal n ts
heads (AreShortNormal.more k ks) = (k, ks)

pub one_less : (n i : ℕ) (ts : List Term) (t : Term) (x : Bool) → i < length ts → t ≡ get_or ts i t → x ≡ true → (x ≡ true) ↔ IsShortNormal n t → AreShortNormal n (drop i ts) ↔ AreShortNormal n ts → AreShortNormal n (drop (i + 1) ts) ↔ AreShortNormal n ts
one_less n i ts t x less is holds short all = subst (λ m. AreShortNormal n (drop m ts) ↔ AreShortNormal n ts) (sym (add-one i)) (
  (λ ks. all.0 (subst (AreShortNormal n) (sym here) (AreShortNormal.more (short.0 holds) ks))),
  (λ ks. (heads (subst (AreShortNormal n) here (all.1 ks))).1),
)
  where
    here : drop i ts ≡ t ∷ drop (suc i) ts
    here = drop-cons ts i t less ∙ ap (λ u. u ∷ drop (suc i) ts) (sym is)

pub one_refused : (n i : ℕ) (ts : List Term) (t : Term) (x : Bool) → i < length ts → t ≡ get_or ts i t → x ≡ false → (x ≡ true) ↔ IsShortNormal n t → AreShortNormal n (drop i ts) ↔ AreShortNormal n ts → (false ≡ true) ↔ AreShortNormal n ts
one_refused n i ts t x less is lacks short all = ((λ h. absurd (true≢false (sym h))), (λ ks. sym lacks ∙ short.1 (heads (subst (AreShortNormal n) (drop-cons ts i t less ∙ ap (λ u. u ∷ drop (suc i) ts) (sym is)) (all.1 ks))).0))

pub all_answer : (n i : ℕ) (ts : List Term) → length ts ≤ i → AreShortNormal n (drop i ts) ↔ AreShortNormal n ts → (true ≡ true) ↔ AreShortNormal n ts
all_answer n i ts end all = ((λ _. all.0 (subst (AreShortNormal n) (sym (drop_of_length-le ts end)) AreShortNormal.none)), (λ _. refl))

-- bodies of abstractions that contract
-- the number is counted exactly where it is below 2^32
exact : (n counted : ℕ) → IsDepth n counted → counted < 2 ^ 32 → counted ≡ n
exact n counted (inl e) low = e
exact n counted (inr (high, above)) low = let never : ⊥ = omega (arith, low, high) in absurd never

pub expanded_answer : (n depth : ℕ) (f e t g h : Term) (x r : Bool) → IsDepth n depth → t ≡ term.App f e → g ≡ e → h ≡ f → x ≡ true → (x ≡ true) ↔ (g ≡ term.Var n) → (x ≡ true → depth < 2 ^ 32) → r ≡ is_absent depth h → (r ≡ true) ↔ IsExpandedBody n t
expanded_answer n depth f e t g h x r d is g_is h_is holds variable level tested = (
  (λ q. subst (IsExpandedBody n) (sym is) (expanded n f e (sym g_is ∙ variable.0 holds) (sym absent ∙ q))),
  (λ b. absent ∙ (expanded_parts n f e (subst (IsExpandedBody n) is b)).1),
)
  where
    absent : r ≡ is_absent n f
    absent = tested ∙ ap₂ is_absent (exact n depth d (level holds)) h_is

pub expanded_refused : (n : ℕ) (f e t g : Term) (x : Bool) → t ≡ term.App f e → g ≡ e → x ≡ false → (x ≡ true) ↔ (g ≡ term.Var n) → (x ≡ true) ↔ IsExpandedBody n t
expanded_refused n f e t g x is g_is lacks variable = (
  (λ h. absurd (true≢false (sym h ∙ lacks))),
  (λ b. variable.1 (g_is ∙ (expanded_parts n f e (subst (IsExpandedBody n) is b)).0)),
)
