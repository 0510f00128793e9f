-- Every term contracts to one term.
use Rattle.std.proofs.Common.{◌≡◌, ℕ, ◌+◌, ◌<◌, ◌≤◌, ◌⊎◌, inl, inr, List, [], ◌∷◌, ◌++◌, length, refl, sym, ap, ap₂, ◌∙◌, subst, arith}
use Rattle.type_core.specs.declared.ty.Ty.{Ty}
use Rattle.conv_terms.specs.declared.term.Term.{Term, out-Term}
use Rattle.conv_terms.specs.declared.term.Term.TheVariants as term
use Rattle.conv_terms.specs.declared.term.Term.TheOpen.{Term-F, Var, Lam, App, Tup, Proj}
use Rattle.conv_terms.specs.Shifting.{shifted}
use Rattle.conv_terms.specs.Contraction.{all_projections, IsExpandedBody, AreAllProjections, IsContraction, AreContractions}
use Rattle.conv_terms.specs.deciding.Depths.{is_absent}
use Rattle.conv_terms.proofs.Equations.{HoldOf, induct}
use Rattle.conv_terms.proofs.Moving.{below_or_from}
use Rattle.conv_terms.proofs.Forms.{out_var, out_lam, out_app, out_tup, out_proj, app_function}
use Rattle.conv_terms.proofs.EqualTerms.{Decided, both, alike, tested, terms_decided, lists_decided}
use Rattle.conv_terms.proofs.Lowering.{expanded, expanded_parts, one_unshifted}
use Rattle.conv_terms.proofs.Projections.{too_few, first_projected, the_projections, one_projected}

-- what a contraction of each form is
pub data OfAbstraction (n : ℕ) (a : Ty) (t : Term) : Term → Type 0 where
  lam : (u : Term) → IsContraction (n + 1) t u → ¬ (IsExpandedBody n u) → OfAbstraction n a t (term.Lam a u)
  eta : (f : Term) → IsContraction (n + 1) t (term.App (shifted n 1 f) (term.Var n)) → OfAbstraction n a t f

pub data OfTuple (n : ℕ) (ts : List Term) : Term → Type 0 where
  tup : (us : List Term) → AreContractions n ts us → ¬ (AreAllProjections us) → OfTuple n ts (term.Tup us)
  surjective_pairing : (e : Term) (m : ℕ) → 2 ≤ m → AreContractions n ts (all_projections e m) → OfTuple n ts e

abbrev ContractionOf : ℕ → Term → Term-F Term → Type 0
ContractionOf n u (Var i) = u ≡ term.Var i
ContractionOf n u (Lam a t) = OfAbstraction n a t u
ContractionOf n u (App f e) = (g : Term) × (h : Term) × (u ≡ term.App g h) × IsContraction n f g × IsContraction n e h
ContractionOf n u (Tup ts) = OfTuple n ts u
ContractionOf n u (Proj i count e) = (h : Term) × (u ≡ term.Proj i count h) × IsContraction n e h

opened : {n : ℕ} {t u : Term} → IsContraction n t u → ContractionOf n u (out-Term t)
opened {n = n} {u = u} (IsContraction.var i) = subst (ContractionOf n u) (sym (out_var i)) refl
opened {n = n} (IsContraction.lam a t u k lacks) = subst (ContractionOf n (term.Lam a u)) (sym (out_lam a t)) (OfAbstraction.lam u k lacks)
opened {n = n} (IsContraction.eta a t f k) = subst (ContractionOf n f) (sym (out_lam a t)) (OfAbstraction.eta f k)
opened {n = n} (IsContraction.app f g e u k l) = subst (ContractionOf n (term.App g u)) (sym (out_app f e)) (g, u, refl, k, l)
opened {n = n} (IsContraction.tup ts us ks lacks) = subst (ContractionOf n (term.Tup us)) (sym (out_tup ts)) (OfTuple.tup us ks lacks)
opened {n = n} (IsContraction.surjective_pairing ts e m two ks) = subst (ContractionOf n e) (sym (out_tup ts)) (OfTuple.surjective_pairing e m two ks)
opened {n = n} (IsContraction.proj i count e u k) = subst (ContractionOf n (term.Proj i count u)) (sym (out_proj i count e)) (u, refl, k)

pub of_var : (n i : ℕ) (u : Term) → IsContraction n (term.Var i) u → u ≡ term.Var i
of_var n i u k = subst (ContractionOf n u) (out_var i) (opened k)

pub of_lam : (n : ℕ) (a : Ty) (t u : Term) → IsContraction n (term.Lam a t) u → OfAbstraction n a t u
of_lam n a t u k = subst (ContractionOf n u) (out_lam a t) (opened k)

pub of_app : (n : ℕ) (f e u : Term) → IsContraction n (term.App f e) u → (g : Term) × (h : Term) × (u ≡ term.App g h) × IsContraction n f g × IsContraction n e h
of_app n f e u k = subst (ContractionOf n u) (out_app f e) (opened k)

pub of_tup : (n : ℕ) (ts : List Term) (u : Term) → IsContraction n (term.Tup ts) u → OfTuple n ts u
of_tup n ts u k = subst (ContractionOf n u) (out_tup ts) (opened k)

pub of_proj : (n i count : ℕ) (e u : Term) → IsContraction n (term.Proj i count e) u → (h : Term) × (u ≡ term.Proj i count h) × IsContraction n e h
of_proj n i count e u k = subst (ContractionOf n u) (out_proj i count e) (opened k)

-- one contraction
at_lam : (n : ℕ) (a : Ty) (t u : Term) → ¬ (IsExpandedBody n u) → ((v : Term) → IsContraction (n + 1) t v → u ≡ v) → (v : Term) → OfAbstraction n a t v → term.Lam a u ≡ v
at_lam n a t u lacks of v (OfAbstraction.lam w k fails) = ap (term.Lam a) (of w k)
at_lam n a t u lacks of v (OfAbstraction.eta f k) = absurd (lacks (f, of _ k))

at_eta : (n : ℕ) (a : Ty) (t f : Term) → ((v : Term) → IsContraction (n + 1) t v → term.App (shifted n 1 f) (term.Var n) ≡ v) → (v : Term) → OfAbstraction n a t v → f ≡ v
at_eta n a t f of v (OfAbstraction.lam w k lacks) = absurd (lacks (f, sym (of w k)))
at_eta n a t f of v (OfAbstraction.eta g k) = one_unshifted n f v (app_function (shifted n 1 f) (term.Var n) (shifted n 1 v) (term.Var n) (of _ k))

at_tup : (n : ℕ) (ts us : List Term) → ¬ (AreAllProjections us) → ((vs : List Term) → AreContractions n ts vs → us ≡ vs) → (v : Term) → OfTuple n ts v → term.Tup us ≡ v
at_tup n ts us lacks of v (OfTuple.tup ws ks fails) = ap term.Tup (of ws ks)
at_tup n ts us lacks of v (OfTuple.surjective_pairing e m two ks) = absurd (lacks (v, m, two, of _ ks))

at_surjective_pairing : (n : ℕ) (ts : List Term) (e : Term) (m : ℕ) → 2 ≤ m → ((vs : List Term) → AreContractions n ts vs → all_projections e m ≡ vs) → (v : Term) → OfTuple n ts v → e ≡ v
at_surjective_pairing n ts e m two of v (OfTuple.tup ws ks lacks) = absurd (lacks (e, m, two, sym (of ws ks)))
at_surjective_pairing n ts e m two of v (OfTuple.surjective_pairing u l enough ks) = one_projected e v m l two (of _ ks)

mutual
  only : {n : ℕ} {t u : Term} → IsContraction n t u → (v : Term) → IsContraction n t v → u ≡ v
  only {n = n} (IsContraction.var i) v l = sym (of_var n i v l)
  only {n = n} (IsContraction.lam a t u k lacks) v l = at_lam n a t u lacks (only k) v (of_lam n a t v l)
  only {n = n} (IsContraction.eta a t f k) v l = at_eta n a t f (only k) v (of_lam n a t v l)
  only {n = n} (IsContraction.app f g e u k l) v m =
      let (w, x, p, q, r) = of_app n f e v m in
      ap₂ term.App (only k w q) (only l x r) ∙ sym p
  only {n = n} (IsContraction.tup ts us ks lacks) v l = at_tup n ts us lacks (only_each ks) v (of_tup n ts v l)
  only {n = n} (IsContraction.surjective_pairing ts e m two ks) v l = at_surjective_pairing n ts e m two (only_each ks) v (of_tup n ts v l)
  only {n = n} (IsContraction.proj i count e u k) v l =
      let (w, p, q) = of_proj n i count e v l in
      ap (term.Proj i count) (only k w q) ∙ sym p

  only_each : {n : ℕ} {ts us : List Term} → AreContractions n ts us → (vs : List Term) → AreContractions n ts vs → us ≡ vs
  only_each AreContractions.none vs AreContractions.none = refl
  only_each (AreContractions.more k ks) vs (AreContractions.more {u = v} {us = ws} l ls) = ap₂ ◌∷◌ (only k v l) (only_each ks ws ls)

pub one_contraction : (n : ℕ) (t u v : Term) → IsContraction n t u → IsContraction n t v → u ≡ v
one_contraction n t u v k l = only k v l

-- whether a body and a tuple contract
no_application : (n : ℕ) (t : Term) (y : Term-F Term) → out-Term t ≡ y → ((g u : Term) → ¬ (y ≡ App g u)) → ¬ (IsExpandedBody n t)
no_application n t y seen differs (f, p) = differs (shifted n 1 f) (term.Var n) (sym seen ∙ ap out-Term p ∙ out_app _ _)

expanded_decided : (n : ℕ) (t : Term) → Decided (IsExpandedBody n t)
expanded_decided n = induct (λ t. Decided (IsExpandedBody n t))
    (λ i. inr (no_application n (term.Var i) (Var i) (out_var i) (λ g u e. cc)))
    (λ a t _. inr (no_application n (term.Lam a t) (Lam a t) (out_lam a t) (λ g u e. cc)))
    (λ f e _ _. both (terms_decided e (term.Var n)) (tested (is_absent n f) (λ h. h) (λ h. h)) (expanded n f e) (λ x. (expanded_parts n f e x).0) (λ x. (expanded_parts n f e x).1))
    (λ ts _. inr (no_application n (term.Tup ts) (Tup ts) (out_tup ts) (λ g u e. cc)))
    (λ i count e _. inr (no_application n (term.Proj i count e) (Proj i count e) (out_proj i count e) (λ g u e. cc)))

abbrev IsProjection : Term → Type 0
IsProjection t = (e : Term) × (i : ℕ) × (count : ℕ) × (t ≡ term.Proj i count e)

no_projection : (t : Term) (y : Term-F Term) → out-Term t ≡ y → ((i count : ℕ) (e : Term) → ¬ (y ≡ Proj i count e)) → ¬ (IsProjection t)
no_projection t y seen differs (e, i, count, p) = differs i count e (sym seen ∙ ap out-Term p ∙ out_proj i count e)

projection_decided : (t : Term) → Decided (IsProjection t)
projection_decided = induct (λ t. Decided (IsProjection t))
    (λ n. inr (no_projection (term.Var n) (Var n) (out_var n) (λ i count e p. cc)))
    (λ a t _. inr (no_projection (term.Lam a t) (Lam a t) (out_lam a t) (λ i count e p. cc)))
    (λ f u _ _. inr (no_projection (term.App f u) (App f u) (out_app f u) (λ i count e p. cc)))
    (λ ts _. inr (no_projection (term.Tup ts) (Tup ts) (out_tup ts) (λ i count e p. cc)))
    (λ i count e _. inl (e, i, count, refl))

projections_decided : (ts : List Term) → Decided (AreAllProjections ts)
projections_decided [] = let few : 0 < 2 = omega arith in inr (too_few [] few)
projections_decided (t ∷ ts) = cases (below_or_from (length (t ∷ ts)) 2)
  where
    seen : 2 ≤ length (t ∷ ts) → Decided (IsProjection t) → Decided (AreAllProjections (t ∷ ts))
    seen two (inl (e, i, count, p)) = alike (lists_decided (t ∷ ts) (all_projections e (length (t ∷ ts)))) (λ all. (e, length (t ∷ ts), two, all)) (the_projections (t ∷ ts) t e i count refl p)
    seen two (inr lacks) = inr (λ all. lacks (first_projected (t ∷ ts) t refl all))

    cases : (length (t ∷ ts) < 2) ⊎ (2 ≤ length (t ∷ ts)) → Decided (AreAllProjections (t ∷ ts))
    cases (inl few) = inr (too_few (t ∷ ts) few)
    cases (inr two) = seen two (projection_decided t)

-- every term contracts
abbrev Contracts : Term → Type 0
Contracts t = (n : ℕ) → (u : Term) × IsContraction n t u

after_body : (n : ℕ) (a : Ty) (t u : Term) → IsContraction (n + 1) t u → Decided (IsExpandedBody n u) → (v : Term) × IsContraction n (term.Lam a t) v
after_body n a t u k (inl (f, p)) = (f, IsContraction.eta a t f (subst (IsContraction (n + 1) t) p k))
after_body n a t u k (inr lacks) = (term.Lam a u, IsContraction.lam a t u k lacks)

after_components : (n : ℕ) (ts us : List Term) → AreContractions n ts us → Decided (AreAllProjections us) → (v : Term) × IsContraction n (term.Tup ts) v
after_components n ts us ks (inl (e, m, two, p)) = (e, IsContraction.surjective_pairing ts e m two (subst (AreContractions n ts) p ks))
after_components n ts us ks (inr lacks) = (term.Tup us, IsContraction.tup ts us ks lacks)

contract : (t : Term) → Contracts t
contract = induct Contracts
    (λ i n. (term.Var i, IsContraction.var i))
    (λ a t ih n. let (u, k) = ih (n + 1) in after_body n a t u k (expanded_decided n u))
    (λ f e ihf ihe n.
    let (g, k) = ihf n in
    let (u, l) = ihe n in
    (term.App g u, IsContraction.app f g e u k l))
    (λ ts ihs n. let (us, ks) = each ts ihs n in after_components n ts us ks (projections_decided us))
    (λ i count e ih n. let (u, k) = ih n in (term.Proj i count u, IsContraction.proj i count e u k))
  where
    each : (ts : List Term) → HoldOf Contracts ts → (n : ℕ) → (us : List Term) × AreContractions n ts us
    each [] ihs n = ([], AreContractions.none)
    each (t ∷ ts) ihs n =
        let (u, k) = ihs.0 n in
        let (us, ks) = each ts ihs.1 n in
        (u ∷ us, AreContractions.more k ks)

pub contraction_of : (n : ℕ) (t : Term) → (u : Term) × IsContraction n t u
contraction_of n t = contract t n

-- what the code makes of contracted parts
pub added : (n : ℕ) (ts us after : List Term) (t u : Term) → AreContractions n ts us → IsContraction n t u → after ≡ us ++ u ∷ [] → AreContractions n (ts ++ t ∷ []) after
added n ts us after t u ks k is = subst (AreContractions n (ts ++ t ∷ [])) (sym is) (go ks)
  where
    go : {ts us : List Term} → AreContractions n ts us → AreContractions n (ts ++ t ∷ []) (us ++ u ∷ [])
    go AreContractions.none = AreContractions.more k AreContractions.none
    go (AreContractions.more l ls) = AreContractions.more l (go ls)

pub body_contracts : (n : ℕ) (a : Ty) (f e g h u body r : Term) → body ≡ term.App f e → g ≡ f → h ≡ e → u ≡ f → shifted n 1 r ≡ u → IsExpandedBody n (term.App g h) → (t : Term) → IsContraction (n + 1) t body → IsContraction n (term.Lam a t) r
body_contracts n a f e g h u body r is first second same lowered expanded t k =
    IsContraction.eta a t r (subst (IsContraction (n + 1) t) (is ∙ ap₂ term.App (sym same ∙ sym lowered) (sym second ∙ (expanded_parts n g h expanded).0)) k)

pub body_stays : (n : ℕ) (a : Ty) (body r : Term) → r ≡ term.Lam a body → ¬ (IsExpandedBody n body) → (t : Term) → IsContraction (n + 1) t body → IsContraction n (term.Lam a t) r
body_stays n a body r is lacks t k = subst (IsContraction n (term.Lam a t)) (sym is) (IsContraction.lam a t body k lacks)

pub other_body : (n : ℕ) (body : Term) → ((f e : Term) → ¬ (body ≡ term.App f e)) → ¬ (IsExpandedBody n body)
other_body n body differs (f, p) = differs (shifted n 1 f) (term.Var n) p

pub app_contracts : (n : ℕ) (t f e f' e' g h g' h' : Term) → t ≡ term.App f e → f' ≡ f → e' ≡ e → IsContraction n f' g → IsContraction n e' h → g' ≡ g → h' ≡ h → IsContraction n t (term.App g' h')
app_contracts n t f e f' e' g h g' h' is first second k l third fourth =
    subst (λ u. IsContraction n u (term.App g' h')) (ap₂ term.App first second ∙ sym is)
    (IsContraction.app f' g' e' h' (subst (IsContraction n f') (sym third) k) (subst (IsContraction n e') (sym fourth) l))

pub proj_contracts : (n i count : ℕ) (t e e' g g' : Term) → t ≡ term.Proj i count e → e' ≡ e → IsContraction n e' g → g' ≡ g → IsContraction n t (term.Proj i count g')
proj_contracts n i count t e e' g g' is same k boxed =
    subst (λ u. IsContraction n u (term.Proj i count g')) (ap (term.Proj i count) same ∙ sym is) (IsContraction.proj i count e' g' (subst (IsContraction n e') (sym boxed) k))
