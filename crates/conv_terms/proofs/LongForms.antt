-- No term has two long forms, and a long form has no redex.
use Rattle.std.proofs.Common.{◌≡◌, ℕ, ◌+◌, ◌&&◌, not, Bool, true, false, List, [], ◌∷◌, length, refl, sym, ap, ap₂, ◌∙◌, subst, subst₂, Some, slice_get, true≢false}
use Rattle.type_core.specs.declared.ty.Ty.{Ty}
use Rattle.conv_terms.specs.declared.term.Term.{Term, out-Term}
use Rattle.conv_terms.specs.declared.term.Term.TheVariants as term
use Rattle.conv_terms.specs.declared.term.Term.TheOpen.{Term-F, Var, Lam, App, Tup, Proj}
use Rattle.conv_terms.specs.Substitution.{substituted}
use Rattle.conv_terms.specs.Parts.{IsPart}
use Rattle.conv_terms.specs.LongForm.{is_abstraction, is_tuple_of, IsLongForm, AreLongForms}
use Rattle.conv_terms.proofs.Equations.{HoldOf, induct}
use Rattle.conv_terms.proofs.Forms.{some_is, same_place, out_var, out_lam, out_app, out_tup, out_proj, lam_body, tup_parts, lam_is, tup_is}
use Rattle.conv_terms.proofs.RedexFree.{is_redex_free, are_redex_free, free_var, free_lam, free_app, free_tup, free_proj, left_true, right_true, both_true, free_at, not_true}

-- what a long form of each layer is
data OfApplication (n : ℕ) (f e : Term) : Term → Type 0 where
  beta : {h : Term} (a : Ty) (t u : Term) → IsLongForm n f (term.Lam a t) → IsLongForm n e u → IsLongForm n (substituted n u t) h → OfApplication n f e h
  app : (g u : Term) → is_abstraction g ≡ false → IsLongForm n f g → IsLongForm n e u → OfApplication n f e (term.App g u)

data OfProjection (n i count : ℕ) (e : Term) : Term → Type 0 where
  projection : {h : Term} (j : ℕ) (ts : List Term) → i ≡ j + 1 → count ≡ length ts → IsLongForm n e (term.Tup ts) → slice_get ts j ≡ Some h → OfProjection n i count e h
  proj : (u : Term) → is_tuple_of count u ≡ false → IsLongForm n e u → OfProjection n i count e (term.Proj i count u)

abbrev LongFormOf : ℕ → Term → Term-F Term → Type 0
LongFormOf n u (Var i) = u ≡ term.Var i
LongFormOf n u (Lam a t) = (v : Term) × (u ≡ term.Lam a v) × IsLongForm (n + 1) t v
LongFormOf n u (Tup ts) = (us : List Term) × (u ≡ term.Tup us) × AreLongForms n ts us
LongFormOf n u (App f e) = OfApplication n f e u
LongFormOf n u (Proj i count e) = OfProjection n i count e u

opened : {n : ℕ} {t u : Term} → IsLongForm n t u → LongFormOf n u (out-Term t)
opened {n = n} {u = u} (IsLongForm.var i) = subst (LongFormOf n u) (sym (out_var i)) refl
opened {n = n} (IsLongForm.lam a t u k) = subst (LongFormOf n (term.Lam a u)) (sym (out_lam a t)) (u, refl, k)
opened {n = n} (IsLongForm.tup ts us ks) = subst (LongFormOf n (term.Tup us)) (sym (out_tup ts)) (us, refl, ks)
opened {n = n} {u = h} (IsLongForm.beta f e a t u k l m) = subst (LongFormOf n h) (sym (out_app f e)) (OfApplication.beta a t u k l m)
opened {n = n} (IsLongForm.app f e g u h k l) = subst (LongFormOf n (term.App g u)) (sym (out_app f e)) (OfApplication.app g u h k l)
opened {n = n} {u = h} (IsLongForm.projection i e ts k l) = subst (LongFormOf n h) (sym (out_proj (i + 1) (length ts) e)) (OfProjection.projection i ts refl refl k l)
opened {n = n} (IsLongForm.proj i count e u h k) = subst (LongFormOf n (term.Proj i count u)) (sym (out_proj i count e)) (OfProjection.proj u h k)

of_lam : (n : ℕ) (a : Ty) (t u : Term) → IsLongForm n (term.Lam a t) u → (v : Term) × (u ≡ term.Lam a v) × IsLongForm (n + 1) t v
of_lam n a t u k = subst (LongFormOf n u) (out_lam a t) (opened k)

of_tup : (n : ℕ) (ts : List Term) (u : Term) → IsLongForm n (term.Tup ts) u → (us : List Term) × (u ≡ term.Tup us) × AreLongForms n ts us
of_tup n ts u k = subst (LongFormOf n u) (out_tup ts) (opened k)

of_app : (n : ℕ) (f e u : Term) → IsLongForm n (term.App f e) u → OfApplication n f e u
of_app n f e u k = subst (LongFormOf n u) (out_app f e) (opened k)

of_proj : (n i count : ℕ) (e u : Term) → IsLongForm n (term.Proj i count e) u → OfProjection n i count e u
of_proj n i count e u k = subst (LongFormOf n u) (out_proj i count e) (opened k)

-- one form
at_beta : (n : ℕ) (f e : Term) (a : Ty) (t u h : Term) → ((v : Term) → IsLongForm n f v → term.Lam a t ≡ v) → ((v : Term) → IsLongForm n e v → u ≡ v) → ((v : Term) → IsLongForm n (substituted n u t) v → h ≡ v) → (v : Term) → OfApplication n f e v → h ≡ v
at_beta n f e a t u h of oe oh v (OfApplication.beta b s w k l m) =
    oh v (subst₂ (λ u t. IsLongForm n (substituted n u t) v) (sym (oe w l)) (sym (lam_body a b t s (of (term.Lam b s) k))) m)
at_beta n f e a t u h of oe oh v (OfApplication.app g w q k l) = absurd (true≢false (sym (lam_is a t) ∙ ap is_abstraction (of g k) ∙ q))

at_app : (n : ℕ) (f e g u : Term) → is_abstraction g ≡ false → ((v : Term) → IsLongForm n f v → g ≡ v) → ((v : Term) → IsLongForm n e v → u ≡ v) → (v : Term) → OfApplication n f e v → term.App g u ≡ v
at_app n f e g u h of oe v (OfApplication.beta b s w k l m) = absurd (true≢false (sym (lam_is b s) ∙ sym (ap is_abstraction (of (term.Lam b s) k)) ∙ h))
at_app n f e g u h of oe v (OfApplication.app g' w q k l) = ap₂ term.App (of g' k) (oe w l)

at_part : (n i : ℕ) (e : Term) (ts : List Term) (h : Term) → slice_get ts i ≡ Some h → ((v : Term) → IsLongForm n e v → term.Tup ts ≡ v) → (v : Term) → OfProjection n (i + 1) (length ts) e v → h ≡ v
at_part n i e ts h l oe v (OfProjection.projection j us p q k m) = some_is h v (sym l ∙ ap₂ slice_get (tup_parts ts us (oe (term.Tup us) k)) (same_place i j p) ∙ m)
at_part n i e ts h l oe v (OfProjection.proj u q k) = absurd (true≢false (sym (tup_is ts) ∙ ap (is_tuple_of (length ts)) (oe u k) ∙ q))

at_proj : (n i count : ℕ) (e u : Term) → is_tuple_of count u ≡ false → ((v : Term) → IsLongForm n e v → u ≡ v) → (v : Term) → OfProjection n i count e v → term.Proj i count u ≡ v
at_proj n i count e u h oe v (OfProjection.projection j us p q k m) = absurd (true≢false (sym (tup_is us) ∙ ap (λ c. is_tuple_of c (term.Tup us)) (sym q) ∙ sym (ap (is_tuple_of count) (oe (term.Tup us) k)) ∙ h))
at_proj n i count e u h oe v (OfProjection.proj w q k) = ap (term.Proj i count) (oe w k)

mutual
  only : {n : ℕ} {t u : Term} → IsLongForm n t u → (v : Term) → IsLongForm n t v → u ≡ v
  only {n = n} (IsLongForm.var i) v l = sym (subst (LongFormOf n v) (out_var i) (opened l))
  only {n = n} (IsLongForm.lam a t u k) v l =
      let o : (w : Term) × (v ≡ term.Lam a w) × IsLongForm (n + 1) t w = of_lam n a t v l in
      ap (term.Lam a) (only k o.0 o.2) ∙ sym o.1
  only {n = n} (IsLongForm.tup ts us ks) v l =
      let o : (vs : List Term) × (v ≡ term.Tup vs) × AreLongForms n ts vs = of_tup n ts v l in
      ap term.Tup (only_all ks o.0 o.2) ∙ sym o.1
  only {n = n} {u = h} (IsLongForm.beta f e a t u k l m) v x = at_beta n f e a t u h (only k) (only l) (only m) v (of_app n f e v x)
  only {n = n} (IsLongForm.app f e g u h k l) v x = at_app n f e g u h (only k) (only l) v (of_app n f e v x)
  only {n = n} {u = h} (IsLongForm.projection i e ts k l) v x = at_part n i e ts h l (only k) v (of_proj n (i + 1) (length ts) e v x)
  only {n = n} (IsLongForm.proj i count e u h k) v x = at_proj n i count e u h (only k) v (of_proj n i count e v x)

  only_all : {n : ℕ} {ts us : List Term} → AreLongForms n ts us → (vs : List Term) → AreLongForms n ts vs → us ≡ vs
  only_all AreLongForms.none vs AreLongForms.none = refl
  only_all (AreLongForms.more k ks) vs (AreLongForms.more {u = v} {us = ws} l ls) = ap₂ ◌∷◌ (only k v l) (only_all ks ws ls)

pub one_long_form : (n : ℕ) (t u v : Term) → IsLongForm n t u → IsLongForm n t v → u ≡ v
one_long_form n t u v k l = only k v l

-- a long form has no redex
mutual
  has_none : {n : ℕ} {t u : Term} → IsLongForm n t u → is_redex_free u ≡ true
  has_none (IsLongForm.var i) = free_var i
  has_none (IsLongForm.lam a t u k) = free_lam a u ∙ has_none k
  has_none (IsLongForm.tup ts us ks) = free_tup us ∙ have_none ks
  has_none (IsLongForm.beta f e a t u k l m) = has_none m
  has_none (IsLongForm.app f e g u h k l) = free_app g u ∙ both_true (not (is_abstraction g)) (is_redex_free g && is_redex_free u) (ap not h) (both_true (is_redex_free g) (is_redex_free u) (has_none k) (has_none l))
  has_none {u = h} (IsLongForm.projection i e ts k l) = free_at ts i h (sym (free_tup ts) ∙ has_none k) l
  has_none (IsLongForm.proj i count e u h k) = free_proj i count u ∙ both_true (not (is_tuple_of count u)) (is_redex_free u) (ap not h) (has_none k)

  have_none : {n : ℕ} {ts us : List Term} → AreLongForms n ts us → are_redex_free us ≡ true
  have_none AreLongForms.none = refl
  have_none (AreLongForms.more {u = u} {us = us} k ks) = both_true (is_redex_free u) (are_redex_free us) (has_none k) (have_none ks)

pub long_form_free : (n : ℕ) (t u : Term) → IsLongForm n t u → is_redex_free u ≡ true
long_form_free n t u k = has_none k

-- nor has a part of it
part_free : {s t : Term} → IsPart s t → is_redex_free t ≡ true → is_redex_free s ≡ true
part_free IsPart.whole h = h
part_free (IsPart.body a t k) h = part_free k (sym (free_lam a t) ∙ h)
part_free (IsPart.function f e k) h =
    let both : (is_redex_free f && is_redex_free e) ≡ true = right_true (not (is_abstraction f)) _ (sym (free_app f e) ∙ h) in
    part_free k (left_true (is_redex_free f) (is_redex_free e) both)
part_free (IsPart.argument f e k) h =
    let both : (is_redex_free f && is_redex_free e) ≡ true = right_true (not (is_abstraction f)) _ (sym (free_app f e) ∙ h) in
    part_free k (right_true (is_redex_free f) (is_redex_free e) both)
part_free (IsPart.component ts i t p k) h = part_free k (free_at ts i t (sym (free_tup ts) ∙ h) p)
part_free (IsPart.projected i n e k) h = part_free k (right_true (not (is_tuple_of n e)) (is_redex_free e) (sym (free_proj i n e) ∙ h))

not_not : (b : Bool) → b ≡ true → not b ≡ true → ⊥
not_not b p h = true≢false (sym h ∙ ap not p)

pub no_beta_redex : (n : ℕ) (t u : Term) (a : Ty) (b e : Term) → IsLongForm n t u → ¬ (IsPart (term.App (term.Lam a b) e) u)
no_beta_redex n t u a b e k p = not_not (is_abstraction (term.Lam a b)) (lam_is a b) (left_true _ _ (sym (free_app (term.Lam a b) e) ∙ part_free p (has_none k)))

pub no_projection : (n : ℕ) (t u : Term) (i : ℕ) (ts : List Term) → IsLongForm n t u → ¬ (IsPart (term.Proj i (length ts) (term.Tup ts)) u)
no_projection n t u i ts k p = not_not (is_tuple_of (length ts) (term.Tup ts)) (tup_is ts) (left_true _ _ (sym (free_proj i (length ts) (term.Tup ts)) ∙ part_free p (has_none k)))

-- a term without redex is its own long form
abbrev Itself : Term → Type 0
Itself t = is_redex_free t ≡ true → (n : ℕ) → IsLongForm n t t

pub itself : (t : Term) → Itself t
itself = induct Itself
    (λ i h n. IsLongForm.var i)
    (λ a t ih h n. IsLongForm.lam a t t (ih (sym (free_lam a t) ∙ h) (n + 1)))
    (λ f e ihf ihe h n.
    let k : (not (is_abstraction f) && (is_redex_free f && is_redex_free e)) ≡ true = sym (free_app f e) ∙ h in
    let l : (is_redex_free f && is_redex_free e) ≡ true = right_true (not (is_abstraction f)) (is_redex_free f && is_redex_free e) k in
    IsLongForm.app f e f e (not_true (is_abstraction f) (left_true (not (is_abstraction f)) (is_redex_free f && is_redex_free e) k)) (ihf (left_true (is_redex_free f) (is_redex_free e) l) n) (ihe (right_true (is_redex_free f) (is_redex_free e) l) n))
    (λ ts ihs h n. IsLongForm.tup ts ts (all ts ihs (sym (free_tup ts) ∙ h) n))
    (λ i m e ih h n.
    let k : (not (is_tuple_of m e) && is_redex_free e) ≡ true = sym (free_proj i m e) ∙ h in
    IsLongForm.proj i m e e (not_true (is_tuple_of m e) (left_true (not (is_tuple_of m e)) (is_redex_free e) k)) (ih (right_true (not (is_tuple_of m e)) (is_redex_free e) k) n))
  where
    all : (ts : List Term) → HoldOf Itself ts → are_redex_free ts ≡ true → (n : ℕ) → AreLongForms n ts ts
    all [] ihs h n = AreLongForms.none
    all (t ∷ ts) ihs h n = AreLongForms.more (ihs.0 (left_true (is_redex_free t) (are_redex_free ts) h) n) (all ts ihs.1 (right_true (is_redex_free t) (are_redex_free ts) h) n)
