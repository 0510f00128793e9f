-- A term has at most one form without redex: parallel reduction, all steps of which lead on to one term.
use Rattle.std.proofs.Common.{◌≡◌, ℕ, ◌+◌, ◌-◌, ◌<◌, ◌≤◌, ltb, ◌&&◌, not, ◌⊎◌, inl, inr, Bool, true, false, if◌then◌else◌, List, [], ◌∷◌, map, length, refl, sym, ap, ap₂, ◌∙◌, subst, subst₂, arith, Option, Some, None, slice_get, true≢false, zero, suc, add-one}
use Rattle.type_core.specs.declared.ty.Ty.{Ty}
use Rattle.conv_terms.specs.declared.term.Term.{Term, out-Term}
use Rattle.conv_terms.specs.declared.term.Term.TheVariants as term
use Rattle.conv_terms.specs.declared.term.Term.TheOpen.{Term-F, Var, Lam, App, Tup, Proj}
use Rattle.conv_terms.specs.Shifting.{shifted}
use Rattle.conv_terms.specs.Substitution.{each_below, images, only, substituted, traversed}
use Rattle.conv_terms.specs.LongForm.{is_abstraction, is_tuple_of}
use Rattle.conv_terms.proofs.Equations.{HoldOf, induct, traversed_var, traversed_lam, traversed_app, traversed_tup, traversed_proj}
use Rattle.conv_terms.proofs.Moving.{all_of_substituted, below_or_from, images_known, images_other, shifted_all, substituted_one}
use Rattle.conv_terms.proofs.Forms.{some_is, none_not, same_place, out_var, out_lam, out_app, out_tup, out_proj, lam_body, tup_parts, lam_is, tup_is, abstraction_is, tuple_is}
use Rattle.conv_terms.proofs.RedexFree.{is_redex_free, are_redex_free, free_lam, free_app, free_tup, free_proj, left_true, right_true}
use Rattle.conv_build.proofs.Reduction.{Reduces, ReduceEach}

mutual
  -- in a context of n variables, some redexes of the first term are reduced at once
  data Parallel : ℕ → Term → Term → Type 0 where
    var : {n : ℕ} (i : ℕ) → Parallel n (term.Var i) (term.Var i)
    lam : {n : ℕ} (a : Ty) (t u : Term) → Parallel (n + 1) t u → Parallel n (term.Lam a t) (term.Lam a u)
    app : {n : ℕ} (f g e u : Term) → Parallel n f g → Parallel n e u → Parallel n (term.App f e) (term.App g u)
    tup : {n : ℕ} (ts us : List Term) → ParallelEach n ts us → Parallel n (term.Tup ts) (term.Tup us)
    proj : {n : ℕ} (i c : ℕ) (e u : Term) → Parallel n e u → Parallel n (term.Proj i c e) (term.Proj i c u)
    beta : {n : ℕ} (a : Ty) (t u e g : Term) → Parallel (n + 1) t u → Parallel n e g → Parallel n (term.App (term.Lam a t) e) (substituted n g u)
    projection : {n : ℕ} (i : ℕ) (ts us : List Term) (u : Term) → ParallelEach n ts us → slice_get us i ≡ Some u → Parallel n (term.Proj (i + 1) (length ts) (term.Tup ts)) u

  data ParallelEach : ℕ → List Term → List Term → Type 0 where
    none : {n : ℕ} → ParallelEach n [] []
    more : {n : ℕ} {t u : Term} {ts us : List Term} → Parallel n t u → ParallelEach n ts us → ParallelEach n (t ∷ ts) (u ∷ us)

-- one after another
data Chain : ℕ → Term → Term → Type 0 where
  done : {n : ℕ} {t : Term} → Chain n t t
  step : {n : ℕ} {t u v : Term} → Parallel n t u → Chain n u v → Chain n t v

data ChainEach : ℕ → List Term → List Term → Type 0 where
  done : {n : ℕ} {t : List Term} → ChainEach n t t
  step : {n : ℕ} {t u v : List Term} → ParallelEach n t u → ChainEach n u v → ChainEach n t v

stays : (t : Term) (n : ℕ) → Parallel n t t
stays = induct (λ t. (n : ℕ) → Parallel n t t)
    (λ i n. Parallel.var i)
    (λ a t ih n. Parallel.lam a t t (ih (n + 1)))
    (λ f e ihf ihe n. Parallel.app f f e e (ihf n) (ihe n))
    (λ ts ihs n. Parallel.tup ts ts (all ts ihs n))
    (λ i c e ih n. Parallel.proj i c e e (ih n))
  where
    all : (ts : List Term) → HoldOf (λ t. (n : ℕ) → Parallel n t t) ts → (n : ℕ) → ParallelEach n ts ts
    all [] ihs n = ParallelEach.none
    all (t ∷ ts) ihs n = ParallelEach.more (ihs.0 n) (all ts ihs.1 n)

stay_each : (ts : List Term) (n : ℕ) → ParallelEach n ts ts
stay_each [] n = ParallelEach.none
stay_each (t ∷ ts) n = ParallelEach.more (stays t n) (stay_each ts n)

-- moving
length_below : (at : ℕ → ℕ → Term) (ts : List Term) (k : ℕ) → length (each_below (map (traversed at) ts) k) ≡ length ts
length_below at [] k = refl
length_below at (t ∷ ts) k = ap suc (length_below at ts k)

get_below : (at : ℕ → ℕ → Term) (ts : List Term) (k i : ℕ) (t : Term) → slice_get ts i ≡ Some t → slice_get (each_below (map (traversed at) ts) k) i ≡ Some (traversed at t k)
get_below at [] k i t h = absurd (none_not t h)
get_below at (x ∷ ts) k zero t h = ap (λ t. Some (traversed at t k)) (some_is x t h)
get_below at (x ∷ ts) k (suc i) t h = get_below at ts k i t h

abbrev AreParallel : ℕ → ℕ → (ℕ → Term) → (ℕ → Term) → Type 0
AreParallel from to s s' = (i k : ℕ) → i < from → Parallel (to + k) (shifted to k (s i)) (shifted to k (s' i))

variable_parallel : (from to : ℕ) (s s' : ℕ → Term) → AreParallel from to s s' → (i k : ℕ) → Parallel (to + k) (images from to s i k) (images from to s' i k)
variable_parallel from to s s' h i k = go (below_or_from i from)
  where
    go : (i < from) ⊎ (from ≤ i) → Parallel (to + k) (images from to s i k) (images from to s' i k)
    go (inl low) = subst₂ (Parallel (to + k)) (sym (images_known from to s i k low)) (sym (images_known from to s' i k low)) (h i k low)
    go (inr high) = subst₂ (Parallel (to + k)) (sym (images_other from to s i k high)) (sym (images_other from to s' i k high)) (Parallel.var (i - from + to))

mutual
  parallel_images : (from to : ℕ) (s s' : ℕ → Term) → AreParallel from to s s' → {m : ℕ} {t u : Term} → Parallel m t u → (k : ℕ) → m ≡ from + k → Parallel (to + k) (traversed (images from to s) t k) (traversed (images from to s') u k)
  parallel_images from to s s' h (Parallel.var i) k e = subst₂ (Parallel (to + k)) (sym (traversed_var (images from to s) i k)) (sym (traversed_var (images from to s') i k)) (variable_parallel from to s s' h i k)
  parallel_images from to s s' h {m = m} (Parallel.lam a t u p) k e =
      let x : m + 1 ≡ from + (k + 1) = omega arith in
      let y : to + (k + 1) ≡ to + k + 1 = omega arith in
      subst₂ (Parallel (to + k)) (sym (traversed_lam (images from to s) a t k)) (sym (traversed_lam (images from to s') a u k)) (Parallel.lam a _ _ (subst (λ m. Parallel m (traversed (images from to s) t (k + 1)) (traversed (images from to s') u (k + 1))) y (parallel_images from to s s' h p (k + 1) x)))
  parallel_images from to s s' h (Parallel.app f g t u p q) k e = subst₂ (Parallel (to + k)) (sym (traversed_app (images from to s) f t k)) (sym (traversed_app (images from to s') g u k)) (Parallel.app _ _ _ _ (parallel_images from to s s' h p k e) (parallel_images from to s s' h q k e))
  parallel_images from to s s' h (Parallel.tup ts us ps) k e = subst₂ (Parallel (to + k)) (sym (traversed_tup (images from to s) ts k)) (sym (traversed_tup (images from to s') us k)) (Parallel.tup _ _ (parallel_images_each from to s s' h ps k e))
  parallel_images from to s s' h (Parallel.proj i c t u p) k e = subst₂ (Parallel (to + k)) (sym (traversed_proj (images from to s) i c t k)) (sym (traversed_proj (images from to s') i c u k)) (Parallel.proj i c _ _ (parallel_images from to s s' h p k e))
  parallel_images from to s s' h {m = m} (Parallel.beta a t u d g p q) k e =
      let x : m + 1 ≡ from + (k + 1) = omega arith in
      let y : to + (k + 1) ≡ to + k + 1 = omega arith in
      subst₂ (Parallel (to + k)) (sym (traversed_app (images from to s) (term.Lam a t) d k ∙ ap (λ f. term.App f (traversed (images from to s) d k)) (traversed_lam (images from to s) a t k)))
      (sym (all_of_substituted from to s' k g u) ∙ ap (λ m. traversed (images from to s') (substituted m g u) k) (sym e))
      (Parallel.beta a _ _ _ _ (subst (λ m. Parallel m (traversed (images from to s) t (k + 1)) (traversed (images from to s') u (k + 1))) y (parallel_images from to s s' h p (k + 1) x)) (parallel_images from to s s' h q k e))
  parallel_images from to s s' h (Parallel.projection i ts us u ps l) k e =
      subst (λ x. Parallel (to + k) x (traversed (images from to s') u k))
      (ap (λ c. term.Proj (i + 1) c (term.Tup (each_below (map (traversed (images from to s)) ts) k))) (length_below (images from to s) ts k) ∙ sym (traversed_proj (images from to s) (i + 1) (length ts) (term.Tup ts) k ∙ ap (term.Proj (i + 1) (length ts)) (traversed_tup (images from to s) ts k)))
      (Parallel.projection i _ _ (traversed (images from to s') u k) (parallel_images_each from to s s' h ps k e) (get_below (images from to s') us k i u l))

  parallel_images_each : (from to : ℕ) (s s' : ℕ → Term) → AreParallel from to s s' → {m : ℕ} {ts us : List Term} → ParallelEach m ts us → (k : ℕ) → m ≡ from + k → ParallelEach (to + k) (each_below (map (traversed (images from to s)) ts) k) (each_below (map (traversed (images from to s')) us) k)
  parallel_images_each from to s s' h ParallelEach.none k e = ParallelEach.none
  parallel_images_each from to s s' h (ParallelEach.more p ps) k e = ParallelEach.more (parallel_images from to s s' h p k e) (parallel_images_each from to s s' h ps k e)

parallel_shifted : (n j : ℕ) (t u : Term) → Parallel n t u → Parallel (n + j) (shifted n j t) (shifted n j u)
parallel_shifted n j t u p =
    let e : n ≡ n + 0 = omega arith in
    let f : n + j + 0 ≡ n + j = omega arith in
    subst₂ (Parallel (n + j)) (sym (shifted_all n j 0 t)) (sym (shifted_all n j 0 u)) (subst (λ m. Parallel m (traversed (images n (n + j) term.Var) t 0) (traversed (images n (n + j) term.Var) u 0)) f (parallel_images n (n + j) term.Var term.Var (λ i k _. stays _ _) p 0 e))

parallel_substituted : (n : ℕ) (t u e g : Term) → Parallel (n + 1) t u → Parallel n e g → Parallel n (substituted n e t) (substituted n g u)
parallel_substituted n t u e g p q =
    let x : n + 1 ≡ n + 1 + 0 = omega arith in
    let y : n + 0 ≡ n = omega arith in
    subst₂ (Parallel n) (sym (substituted_one n 0 e t)) (sym (substituted_one n 0 g u)) (subst (λ m. Parallel m (traversed (images (n + 1) n (only n e)) t 0) (traversed (images (n + 1) n (only n g)) u 0)) y (parallel_images (n + 1) n (only n e) (only n g) (λ i k _. each i k (ltb i n)) p 0 x))
  where
    each : (i k : ℕ) (b : Bool) → Parallel (n + k) (shifted n k (if b then term.Var i else e)) (shifted n k (if b then term.Var i else g))
    each i k true = stays _ _
    each i k false = parallel_shifted n k e g q

-- what a step from each form is
data OfApplication (n : ℕ) (f e : Term) : Term → Type 0 where
  app : (g u : Term) → Parallel n f g → Parallel n e u → OfApplication n f e (term.App g u)
  beta : (a : Ty) (t u g : Term) → f ≡ term.Lam a t → Parallel (n + 1) t u → Parallel n e g → OfApplication n f e (substituted n g u)

data OfProjection (n i c : ℕ) (e : Term) : Term → Type 0 where
  proj : (u : Term) → Parallel n e u → OfProjection n i c e (term.Proj i c u)
  projection : (j : ℕ) (ts us : List Term) (u : Term) → i ≡ j + 1 → c ≡ length ts → e ≡ term.Tup ts → ParallelEach n ts us → slice_get us j ≡ Some u → OfProjection n i c e u

abbrev ParallelOf : ℕ → Term → Term-F Term → Type 0
ParallelOf n u (Var i) = u ≡ term.Var i
ParallelOf n u (Lam a t) = (v : Term) × (u ≡ term.Lam a v) × Parallel (n + 1) t v
ParallelOf n u (App f e) = OfApplication n f e u
ParallelOf n u (Tup ts) = (us : List Term) × (u ≡ term.Tup us) × ParallelEach n ts us
ParallelOf n u (Proj i c e) = OfProjection n i c e u

opened : {n : ℕ} {t u : Term} → Parallel n t u → ParallelOf n u (out-Term t)
opened {n = n} {u = u} (Parallel.var i) = subst (ParallelOf n u) (sym (out_var i)) refl
opened {n = n} (Parallel.lam a t u p) = subst (ParallelOf n (term.Lam a u)) (sym (out_lam a t)) (u, refl, p)
opened {n = n} (Parallel.app f g e u p q) = subst (ParallelOf n (term.App g u)) (sym (out_app f e)) (OfApplication.app g u p q)
opened {n = n} (Parallel.tup ts us ps) = subst (ParallelOf n (term.Tup us)) (sym (out_tup ts)) (us, refl, ps)
opened {n = n} (Parallel.proj i c e u p) = subst (ParallelOf n (term.Proj i c u)) (sym (out_proj i c e)) (OfProjection.proj u p)
opened {n = n} (Parallel.beta a t u e g p q) = subst (ParallelOf n (substituted n g u)) (sym (out_app (term.Lam a t) e)) (OfApplication.beta a t u g refl p q)
opened {n = n} (Parallel.projection i ts us u ps l) = subst (ParallelOf n u) (sym (out_proj (i + 1) (length ts) (term.Tup ts))) (OfProjection.projection i ts us u refl refl refl ps l)

of_lam : (n : ℕ) (a : Ty) (t u : Term) → Parallel n (term.Lam a t) u → (v : Term) × (u ≡ term.Lam a v) × Parallel (n + 1) t v
of_lam n a t u p = subst (ParallelOf n u) (out_lam a t) (opened p)

of_tup : (n : ℕ) (ts : List Term) (u : Term) → Parallel n (term.Tup ts) u → (us : List Term) × (u ≡ term.Tup us) × ParallelEach n ts us
of_tup n ts u p = subst (ParallelOf n u) (out_tup ts) (opened p)

of_app : (n : ℕ) (f e u : Term) → Parallel n (term.App f e) u → OfApplication n f e u
of_app n f e u p = subst (ParallelOf n u) (out_app f e) (opened p)

of_proj : (n i c : ℕ) (e u : Term) → Parallel n (term.Proj i c e) u → OfProjection n i c e u
of_proj n i c e u p = subst (ParallelOf n u) (out_proj i c e) (opened p)

-- all steps from a term lead on to one
abbrev LeadToOne : Term → Type 0
LeadToOne t = (n : ℕ) → (w : Term) × ((v : Term) → Parallel n t v → Parallel n v w)

lam_leads : (a : Ty) (t : Term) → LeadToOne t → LeadToOne (term.Lam a t)
lam_leads a t ih n = (term.Lam a (ih (n + 1)).0, λ v p. go v (of_lam n a t v p))
  where
    go : (v : Term) → (u : Term) × (v ≡ term.Lam a u) × Parallel (n + 1) t u → Parallel n v (term.Lam a (ih (n + 1)).0)
    go v o = subst (λ x. Parallel n x (term.Lam a (ih (n + 1)).0)) (sym o.1) (Parallel.lam a o.0 (ih (n + 1)).0 ((ih (n + 1)).1 o.0 o.2))

each_leads : (ts : List Term) → HoldOf LeadToOne ts → (n : ℕ) → (ws : List Term) × ((vs : List Term) → ParallelEach n ts vs → ParallelEach n vs ws)
each_leads [] ihs n = ([], λ vs p. p_none vs p)
  where
    p_none : (vs : List Term) → ParallelEach n [] vs → ParallelEach n vs []
    p_none vs ParallelEach.none = ParallelEach.none
each_leads (t ∷ ts) ihs n = ((ihs.0 n).0 ∷ (each_leads ts ihs.1 n).0, λ vs p. p_more (ihs.0 n).0 (each_leads ts ihs.1 n).0 (ihs.0 n).1 (each_leads ts ihs.1 n).1 vs p)
  where
    p_more : (w : Term) (ws : List Term) → ((v : Term) → Parallel n t v → Parallel n v w) → ((vs : List Term) → ParallelEach n ts vs → ParallelEach n vs ws) → (vs : List Term) → ParallelEach n (t ∷ ts) vs → ParallelEach n vs (w ∷ ws)
    p_more w ws f g vs (ParallelEach.more {u = u} {us = us} p ps) = ParallelEach.more (f u p) (g us ps)

tup_leads : (ts : List Term) → HoldOf LeadToOne ts → LeadToOne (term.Tup ts)
tup_leads ts ihs n = (term.Tup (each_leads ts ihs n).0, λ v p. go v (of_tup n ts v p))
  where
    go : (v : Term) → (us : List Term) × (v ≡ term.Tup us) × ParallelEach n ts us → Parallel n v (term.Tup (each_leads ts ihs n).0)
    go v o = subst (λ x. Parallel n x (term.Tup (each_leads ts ihs n).0)) (sym o.1) (Parallel.tup o.0 (each_leads ts ihs n).0 ((each_leads ts ihs n).1 o.0 o.2))

without_beta : (n : ℕ) (f e wf we : Term) → is_abstraction f ≡ false → ((v : Term) → Parallel n f v → Parallel n v wf) → ((v : Term) → Parallel n e v → Parallel n v we) → (v : Term) → OfApplication n f e v → Parallel n v (term.App wf we)
without_beta n f e wf we h of oe v (OfApplication.app g u p q) = Parallel.app g wf u we (of g p) (oe u q)
without_beta n f e wf we h of oe v (OfApplication.beta a t u g r p q) = absurd (true≢false (sym (lam_is a t) ∙ ap is_abstraction (sym r) ∙ h))

with_beta : (n : ℕ) (f e wf we : Term) (a : Ty) (s ws : Term) → f ≡ term.Lam a s → wf ≡ term.Lam a ws → ((v : Term) → Parallel n f v → Parallel n v wf) → ((v : Term) → Parallel n e v → Parallel n v we) → (v : Term) → OfApplication n f e v → Parallel n v (substituted n we ws)
with_beta n f e wf we a s ws hf hw of oe v (OfApplication.app g u p q) =
    let o : (x : Term) × (g ≡ term.Lam a x) × Parallel (n + 1) s x = of_lam n a s g (subst (λ f. Parallel n f g) hf p) in
    let r : (y : Term) × (term.Lam a ws ≡ term.Lam a y) × Parallel (n + 1) o.0 y = of_lam n a o.0 (term.Lam a ws) (subst₂ (Parallel n) o.1 hw (of g p)) in
    subst (λ g. Parallel n (term.App g u) (substituted n we ws)) (sym o.1) (Parallel.beta a o.0 ws u we (subst (Parallel (n + 1) o.0) (sym (lam_body a a ws r.0 r.1)) r.2) (oe u q))
with_beta n f e wf we a s ws hf hw of oe v (OfApplication.beta b t u g r p q) =
    let o : (y : Term) × (term.Lam a ws ≡ term.Lam b y) × Parallel (n + 1) u y = of_lam n b u (term.Lam a ws) (subst (Parallel n (term.Lam b u)) hw (of (term.Lam b u) (subst (λ f. Parallel n f (term.Lam b u)) (sym r) (Parallel.lam b t u p)))) in
    parallel_substituted n u ws g we (subst (Parallel (n + 1) u) (sym (lam_body a b ws o.0 o.1)) o.2) (oe g q)

app_leads : (f e : Term) → LeadToOne f → LeadToOne e → LeadToOne (term.App f e)
app_leads f e ihf ihe n = go (is_abstraction f) refl
  where
    go : (b : Bool) → is_abstraction f ≡ b → (w : Term) × ((v : Term) → Parallel n (term.App f e) v → Parallel n v w)
    go false h = (term.App (ihf n).0 (ihe n).0, λ v p. without_beta n f e (ihf n).0 (ihe n).0 h (ihf n).1 (ihe n).1 v (of_app n f e v p))
    go true h =
        let o : (a : Ty) × (s : Term) × (f ≡ term.Lam a s) = abstraction_is f h in
        let w : (ws : Term) × ((ihf n).0 ≡ term.Lam o.0 ws) × Parallel (n + 1) o.1 ws = of_lam n o.0 o.1 (ihf n).0 (subst (λ x. Parallel n x (ihf n).0) o.2 ((ihf n).1 f (stays f n))) in
        (substituted n (ihe n).0 w.0, λ v p. with_beta n f e (ihf n).0 (ihe n).0 o.0 o.1 w.0 o.2 w.1 (ihf n).1 (ihe n).1 v (of_app n f e v p))

parallel_at : {n : ℕ} {ts us : List Term} → ParallelEach n ts us → (i : ℕ) (t : Term) → slice_get ts i ≡ Some t → (u : Term) × (slice_get us i ≡ Some u) × Parallel n t u
parallel_at ParallelEach.none i t h = absurd (none_not t h)
parallel_at {n = n} (ParallelEach.more {u = u} p ps) zero t h = (u, refl, subst (λ t. Parallel n t u) (some_is _ t h) p)
parallel_at (ParallelEach.more p ps) (suc i) t h = parallel_at ps i t h

parallel_length : {n : ℕ} {ts us : List Term} → ParallelEach n ts us → length ts ≡ length us
parallel_length ParallelEach.none = refl
parallel_length (ParallelEach.more p ps) = ap suc (parallel_length ps)

-- a component that leads on
component_leads : (n c j : ℕ) (e we : Term) (ts ws : List Term) (x : Term) → e ≡ term.Tup ts → length ts ≡ c → we ≡ term.Tup ws → slice_get ws j ≡ Some x → ((v : Term) → Parallel n e v → Parallel n v we) → (v : Term) → OfProjection n (j + 1) c e v → Parallel n v x
component_leads n c j e we ts ws x he hc hw l oe v (OfProjection.proj u p) =
    let o : (us : List Term) × (u ≡ term.Tup us) × ParallelEach n ts us = of_tup n ts u (subst (λ e. Parallel n e u) he p) in
    let r : (ys : List Term) × (term.Tup ws ≡ term.Tup ys) × ParallelEach n o.0 ys = of_tup n o.0 (term.Tup ws) (subst₂ (Parallel n) o.1 hw (oe u p)) in
    subst₂ (λ c u. Parallel n (term.Proj (j + 1) c u) x) (sym (parallel_length o.2) ∙ hc) (sym o.1) (Parallel.projection j o.0 ws x (subst (ParallelEach n o.0) (sym (tup_parts ws r.0 r.1)) r.2) l)
component_leads n c j e we ts ws x he hc hw l oe v (OfProjection.projection k ts' us u hi hc' he' ps m) =
    let r : (ys : List Term) × (term.Tup ws ≡ term.Tup ys) × ParallelEach n us ys = of_tup n us (term.Tup ws) (subst (Parallel n (term.Tup us)) hw (oe (term.Tup us) (subst (λ e. Parallel n e (term.Tup us)) (sym he') (Parallel.tup ts' us ps)))) in
    let o : (y : Term) × (slice_get r.0 k ≡ Some y) × Parallel n u y = parallel_at r.2 k u m in
    subst (Parallel n u) (some_is o.0 x (sym o.1 ∙ ap₂ slice_get (sym (tup_parts ws r.0 r.1)) (sym (same_place j k hi)) ∙ l)) o.2

-- no component
without_component : (n i c : ℕ) (e we : Term) → ((v : Term) → Parallel n e v → Parallel n v we) → ((j : ℕ) (ts us : List Term) (u : Term) → i ≡ j + 1 → c ≡ length ts → e ≡ term.Tup ts → ParallelEach n ts us → slice_get us j ≡ Some u → ⊥) → (v : Term) → OfProjection n i c e v → Parallel n v (term.Proj i c we)
without_component n i c e we oe never v (OfProjection.proj u p) = Parallel.proj i c u we (oe u p)
without_component n i c e we oe never v (OfProjection.projection j ts us u a b d ps l) = absurd (never j ts us u a b d ps l)

proj_leads : (i c : ℕ) (e : Term) → LeadToOne e → LeadToOne (term.Proj i c e)
proj_leads i c e ih n = go (is_tuple_of c e) refl i refl
  where
    w : Term
    w = (ih n).0

    keep : ((j : ℕ) (ts us : List Term) (u : Term) → i ≡ j + 1 → c ≡ length ts → e ≡ term.Tup ts → ParallelEach n ts us → slice_get us j ≡ Some u → ⊥) → (w : Term) × ((v : Term) → Parallel n (term.Proj i c e) v → Parallel n v w)
    keep never = (term.Proj i c (ih n).0, λ v p. without_component n i c e (ih n).0 (ih n).1 never v (of_proj n i c e v p))

    at : (j : ℕ) → i ≡ j + 1 → (ts : List Term) → e ≡ term.Tup ts → length ts ≡ c → (ws : List Term) → (ih n).0 ≡ term.Tup ws → (o : Option Term) → slice_get ws j ≡ o → (w : Term) × ((v : Term) → Parallel n (term.Proj i c e) v → Parallel n v w)
    at j hi ts he hc ws hw (Some x) l = (x, λ v p. component_leads n c j e (ih n).0 ts ws x he hc hw l (ih n).1 v (subst (λ i. OfProjection n i c e v) hi (of_proj n i c e v p)))
    at j hi ts he hc ws hw None l = keep (λ k ts' us u a b d ps m.
        let r : (ys : List Term) × (term.Tup ws ≡ term.Tup ys) × ParallelEach n us ys = of_tup n us (term.Tup ws) (subst (Parallel n (term.Tup us)) hw ((ih n).1 (term.Tup us) (subst (λ e. Parallel n e (term.Tup us)) (sym d) (Parallel.tup ts' us ps)))) in
        let o : (y : Term) × (slice_get r.0 k ≡ Some y) × Parallel n u y = parallel_at r.2 k u m in
        none_not o.0 (sym l ∙ ap₂ slice_get (tup_parts ws r.0 r.1) (same_place j k (sym hi ∙ a)) ∙ o.1))

    go : (b : Bool) → is_tuple_of c e ≡ b → (j : ℕ) → i ≡ j → (w : Term) × ((v : Term) → Parallel n (term.Proj i c e) v → Parallel n v w)
    go false h j hi = keep (λ k ts us u a b d ps m. true≢false (sym (tup_is ts) ∙ ap₂ is_tuple_of (sym b) (sym d) ∙ h))
    go true h zero hi = keep (λ k ts us u a b d ps m. let nothing : ⊥ = omega arith in nothing)
    go true h (suc j) hi =
        let o : (ts : List Term) × (e ≡ term.Tup ts) × (length ts ≡ c) = tuple_is e c h in
        let ws : (us : List Term) × ((ih n).0 ≡ term.Tup us) × ParallelEach n o.0 us = of_tup n o.0 (ih n).0 (subst (λ x. Parallel n x (ih n).0) o.1 ((ih n).1 e (stays e n))) in
        at j (hi ∙ sym (add-one j)) o.0 o.1 o.2 ws.0 ws.1 (slice_get ws.0 j) refl

lead_to_one : (t : Term) → LeadToOne t
lead_to_one = induct LeadToOne (λ i n. (term.Var i, λ v p. subst (λ x. Parallel n x (term.Var i)) (sym (subst (ParallelOf n v) (out_var i) (opened p))) (Parallel.var i))) lam_leads app_leads tup_leads proj_leads

-- a step beside many
strip : {n : ℕ} {t v : Term} → Chain n t v → (u : Term) → Parallel n t u → (w : Term) × Chain n u w × Parallel n v w
strip {n = n} {t = t} Chain.done u p = (u, Chain.done, p)
strip {n = n} {t = t} (Chain.step {u = t'} q s) u p =
    let o : (w : Term) × Chain n (lead_to_one t n).0 w × Parallel n _ w = strip s (lead_to_one t n).0 ((lead_to_one t n).1 t' q) in
    (o.0, Chain.step ((lead_to_one t n).1 u p) o.1, o.2)

mutual
  redex_free_stays : {n : ℕ} {t u : Term} → Parallel n t u → is_redex_free t ≡ true → t ≡ u
  redex_free_stays (Parallel.var i) h = refl
  redex_free_stays (Parallel.lam a t u p) h = ap (term.Lam a) (redex_free_stays p (sym (free_lam a t) ∙ h))
  redex_free_stays (Parallel.app f g e u p q) h =
      let k : (is_redex_free f && is_redex_free e) ≡ true = right_true (not (is_abstraction f)) (is_redex_free f && is_redex_free e) (sym (free_app f e) ∙ h) in
      ap₂ term.App (redex_free_stays p (left_true (is_redex_free f) (is_redex_free e) k)) (redex_free_stays q (right_true (is_redex_free f) (is_redex_free e) k))
  redex_free_stays (Parallel.tup ts us ps) h = ap term.Tup (redex_free_stay ps (sym (free_tup ts) ∙ h))
  redex_free_stays (Parallel.proj i c e u p) h = ap (term.Proj i c) (redex_free_stays p (right_true (not (is_tuple_of c e)) (is_redex_free e) (sym (free_proj i c e) ∙ h)))
  redex_free_stays (Parallel.beta a t u e g p q) h = absurd (true≢false (sym (left_true (not (is_abstraction (term.Lam a t))) (is_redex_free (term.Lam a t) && is_redex_free e) (sym (free_app (term.Lam a t) e) ∙ h)) ∙ ap not (lam_is a t)))
  redex_free_stays (Parallel.projection i ts us u ps l) h = absurd (true≢false (sym (left_true (not (is_tuple_of (length ts) (term.Tup ts))) (is_redex_free (term.Tup ts)) (sym (free_proj (i + 1) (length ts) (term.Tup ts)) ∙ h)) ∙ ap not (tup_is ts)))

  redex_free_stay : {n : ℕ} {ts us : List Term} → ParallelEach n ts us → are_redex_free ts ≡ true → ts ≡ us
  redex_free_stay ParallelEach.none h = refl
  redex_free_stay (ParallelEach.more {t = t} {ts = ts} p ps) h = ap₂ ◌∷◌ (redex_free_stays p (left_true (is_redex_free t) (are_redex_free ts) h)) (redex_free_stay ps (right_true (is_redex_free t) (are_redex_free ts) h))

chain_stays : {n : ℕ} {t u : Term} → Chain n t u → is_redex_free t ≡ true → t ≡ u
chain_stays Chain.done h = refl
chain_stays (Chain.step p s) h = redex_free_stays p h ∙ chain_stays s (ap is_redex_free (sym (redex_free_stays p h)) ∙ h)

one_result_of_chains : {n : ℕ} {t u : Term} → Chain n t u → (v : Term) → Chain n t v → is_redex_free u ≡ true → is_redex_free v ≡ true → u ≡ v
one_result_of_chains Chain.done v s hu hv = chain_stays s hu
one_result_of_chains {n = n} (Chain.step {u = t'} {v = u} p r) v s hu hv =
    let o : (w : Term) × Chain n t' w × Parallel n v w = strip s t' p in
    one_result_of_chains r v (subst (Chain n t') (sym (redex_free_stays o.2 hv)) o.1) hu hv

-- single steps
chains_joined : {n : ℕ} {t u v : Term} → Chain n t u → Chain n u v → Chain n t v
chains_joined Chain.done l = l
chains_joined (Chain.step p s) l = Chain.step p (chains_joined s l)

chain_lam : {m : ℕ} (n : ℕ) (a : Ty) {t u : Term} → Chain m t u → m ≡ n + 1 → Chain n (term.Lam a t) (term.Lam a u)
chain_lam n a Chain.done e = Chain.done
chain_lam n a (Chain.step {t = t} {u = u} p s) e = Chain.step (Parallel.lam a t u (subst (λ m. Parallel m t u) e p)) (chain_lam n a s e)

chain_function : {n : ℕ} {f g : Term} (e : Term) → Chain n f g → Chain n (term.App f e) (term.App g e)
chain_function e Chain.done = Chain.done
chain_function {n = n} e (Chain.step {t = t} {u = u} p s) = Chain.step (Parallel.app t u e e p (stays e n)) (chain_function e s)

chain_argument : {n : ℕ} (f : Term) {e u : Term} → Chain n e u → Chain n (term.App f e) (term.App f u)
chain_argument f Chain.done = Chain.done
chain_argument {n = n} f (Chain.step {t = t} {u = u} p s) = Chain.step (Parallel.app f f t u (stays f n) p) (chain_argument f s)

chain_proj : {n : ℕ} (i c : ℕ) {t u : Term} → Chain n t u → Chain n (term.Proj i c t) (term.Proj i c u)
chain_proj i c Chain.done = Chain.done
chain_proj i c (Chain.step {t = t} {u = u} p s) = Chain.step (Parallel.proj i c t u p) (chain_proj i c s)

chain_tup : {n : ℕ} {ts us : List Term} → ChainEach n ts us → Chain n (term.Tup ts) (term.Tup us)
chain_tup ChainEach.done = Chain.done
chain_tup (ChainEach.step {t = t} {u = u} p s) = Chain.step (Parallel.tup t u p) (chain_tup s)

chain_rest : {n : ℕ} (t : Term) {ts us : List Term} → ChainEach n ts us → ChainEach n (t ∷ ts) (t ∷ us)
chain_rest t ChainEach.done = ChainEach.done
chain_rest {n = n} t (ChainEach.step p s) = ChainEach.step (ParallelEach.more (stays t n) p) (chain_rest t s)

chain_more : {n : ℕ} {t u : Term} {ts us : List Term} → Chain n t u → ChainEach n ts us → ChainEach n (t ∷ ts) (u ∷ us)
chain_more {t = t} Chain.done r = chain_rest t r
chain_more {n = n} {ts = ts} (Chain.step p s) r = ChainEach.step (ParallelEach.more p (stay_each ts n)) (chain_more s r)

mutual
  chain_of : {n : ℕ} {t u : Term} → Reduces n t u → Chain n t u
  chain_of Reduces.same = Chain.done
  chain_of (Reduces.chain k l) = chains_joined (chain_of k) (chain_of l)
  chain_of {n = n} (Reduces.lam a k) = chain_lam n a (chain_of k) refl
  chain_of (Reduces.app {g = g} {t = t} k l) = chains_joined (chain_function t (chain_of k)) (chain_argument g (chain_of l))
  chain_of (Reduces.tup ks) = chain_tup (chain_of_each ks)
  chain_of (Reduces.proj i c k) = chain_proj i c (chain_of k)
  chain_of {n = n} (Reduces.beta a t e) = Chain.step (Parallel.beta a t t e e (stays t (n + 1)) (stays e n)) Chain.done
  chain_of {n = n} (Reduces.projection i ts t l) = Chain.step (Parallel.projection i ts ts t (stay_each ts n) l) Chain.done

  chain_of_each : {n : ℕ} {ts us : List Term} → ReduceEach n ts us → ChainEach n ts us
  chain_of_each ReduceEach.none = ChainEach.done
  chain_of_each (ReduceEach.more k ks) = chain_more (chain_of k) (chain_of_each ks)

pub one_result : (n : ℕ) (t u v : Term) → Reduces n t u → Reduces n t v → is_redex_free u ≡ true → is_redex_free v ≡ true → u ≡ v
one_result n t u v k l hu hv = one_result_of_chains (chain_of k) v (chain_of l) hu hv
