-- What a normal term contracts to is short normal.
use Rattle.std.proofs.Common.{◌≡◌, ℕ, ◌+◌, ◌-◌, ◌≤◌, false, List, [], ◌∷◌, map, refl, sym, ap, ap₂, ◌∙◌, subst, arith, zero, suc}
use Rattle.type_core.specs.declared.ty.Ty.{Ty}
use Rattle.conv_terms.specs.declared.term.Term.{Term}
use Rattle.conv_terms.specs.declared.term.Term.TheVariants as term
use Rattle.conv_terms.specs.Shifting.{shifted}
use Rattle.conv_terms.specs.LongForm.{abstraction_form, is_abstraction, tuple_form, is_tuple_of}
use Rattle.conv_terms.specs.Contraction.{projections, all_projections, IsExpandedBody, AreAllProjections, IsContraction, AreContractions}
use Rattle.conv_terms.specs.ShortNormal.{IsShortNormal, AreShortNormal}
use Rattle.conv_terms.proofs.Equations.{HoldOf, induct, shifted_var, shifted_lam, shifted_app, shifted_tup, shifted_proj}
use Rattle.conv_terms.proofs.Forms.{out_var, out_app, out_proj}
use Rattle.conv_terms.proofs.RedexFree.{lam_shifted, tup_shifted}
use Rattle.conv_terms.proofs.Moving.{all_of_shifted, shifted_all, raised_high}
use Rattle.conv_terms.proofs.Contractions.{OfAbstraction, OfTuple, of_var, of_lam, of_app, of_tup, of_proj}
use Rattle.conv_terms.proofs.ShortNormals as short

mutual
  -- a normal term: abstractions and tuples around neutral terms
  pub data IsNormal : Term → Type 0 where
    lam : (a : Ty) (t : Term) → IsNormal t → IsNormal (term.Lam a t)
    tup : (ts : List Term) → AreNormal ts → IsNormal (term.Tup ts)
    neutral : {t : Term} → IsNeutral t → IsNormal t

  -- a neutral term: a variable that is applied to normal terms and projected from, in any order
  pub data IsNeutral : Term → Type 0 where
    var : (i : ℕ) → IsNeutral (term.Var i)
    app : (f e : Term) → IsNeutral f → IsNormal e → IsNeutral (term.App f e)
    proj : (i count : ℕ) (e : Term) → IsNeutral e → IsNeutral (term.Proj i count e)

  -- each of the terms is normal
  pub data AreNormal : List Term → Type 0 where
    none : AreNormal []
    more : {t : Term} {ts : List Term} → IsNormal t → AreNormal ts → AreNormal (t ∷ ts)

-- a normal term of another form is neutral
pub is_neutral : {t : Term} → IsNormal t → ((a : Ty) (u : Term) → ¬ (t ≡ term.Lam a u)) → ((ts : List Term) → ¬ (t ≡ term.Tup ts)) → IsNeutral t
is_neutral (IsNormal.lam a t k) no_lam no_tup = absurd (no_lam a t refl)
is_neutral (IsNormal.tup ts ks) no_lam no_tup = absurd (no_tup ts refl)
is_neutral (IsNormal.neutral k) no_lam no_tup = k

-- a term is short where its shift is
shifts_commute : (n m : ℕ) (t : Term) → n ≤ m → shifted n 1 (shifted m 1 t) ≡ shifted (m + 1) 1 (shifted n 1 t)
shifts_commute n m t low =
    let place : n + (m - n) ≡ m = omega (arith, low) in
    let next : n + 1 + (m - n) ≡ m + 1 = omega (arith, low) in
    ap (λ k. shifted n 1 (shifted k 1 t)) (sym place)
    ∙ shifted_all n 1 (m - n + 1) (shifted (n + (m - n)) 1 t)
    ∙ all_of_shifted n (n + 1) term.Var (m - n) 1 t
    ∙ ap₂ (λ k u. shifted k 1 u) next (sym (shifted_all n 1 (m - n) t))

expanded_shifted : (n m : ℕ) (t : Term) → n ≤ m → IsExpandedBody m t → IsExpandedBody (m + 1) (shifted n 1 t)
expanded_shifted n m t low (f, p) = (
  shifted n 1 f,
  ap (shifted n 1) p ∙ shifted_app n 1 (shifted m 1 f) (term.Var m)
      ∙ ap₂ term.App (shifts_commute n m f low) (shifted_var n 1 m ∙ ap term.Var (raised_high n 1 m low)),
)

projections_shifted : (n : ℕ) (e : Term) (m i count : ℕ) → map (shifted n 1) (projections e m i count) ≡ projections (shifted n 1 e) m i count
projections_shifted n e m i zero = refl
projections_shifted n e m i (suc count) = ap₂ ◌∷◌ (shifted_proj n 1 i m e) (projections_shifted n e m (i + 1) count)

projected_shifted : (n : ℕ) (ts : List Term) → AreAllProjections ts → AreAllProjections (map (shifted n 1) ts)
projected_shifted n ts (e, m, two, are) = (shifted n 1 e, m, two, ap (map (shifted n 1)) are ∙ projections_shifted n e m 1 m)

abbrev ShortBefore : ℕ → Term → Type 0
ShortBefore n t = (m : ℕ) → n ≤ m → IsShortNormal (m + 1) (shifted n 1 t) → IsShortNormal m t

short_before : (n : ℕ) (t : Term) → ShortBefore n t
short_before n = induct (ShortBefore n)
    (λ i m low k. IsShortNormal.var i)
    (λ a t ih m low k.
    let (lacks, body) = short.of_lam (m + 1) a (shifted n 1 t) (subst (IsShortNormal (m + 1)) (shifted_lam n 1 a t) k) in
    let further : n ≤ m + 1 = omega (arith, low) in
    IsShortNormal.lam a t (λ e. lacks (expanded_shifted n m t low e)) (ih (m + 1) further body))
    (λ f e ihf ihe m low k.
    let (lacks, function, argument) = short.of_app (m + 1) (shifted n 1 f) (shifted n 1 e) (subst (IsShortNormal (m + 1)) (shifted_app n 1 f e) k) in
    IsShortNormal.app f e (sym (lam_shifted n 1 f) ∙ lacks) (ihf m low function) (ihe m low argument))
    (λ ts ihs m low k.
    let (lacks, components) = short.of_tup (m + 1) (map (shifted n 1) ts) (subst (IsShortNormal (m + 1)) (shifted_tup n 1 ts) k) in
    IsShortNormal.tup ts (λ p. lacks (projected_shifted n ts p)) (each ts ihs m low components))
    (λ i count e ih m low k.
    let (lacks, projected) = short.of_proj (m + 1) i count (shifted n 1 e) (subst (IsShortNormal (m + 1)) (shifted_proj n 1 i count e) k) in
    IsShortNormal.proj i count e (sym (tup_shifted n 1 count e) ∙ lacks) (ih m low projected))
  where
    each : (ts : List Term) → HoldOf (ShortBefore n) ts → (m : ℕ) → n ≤ m → AreShortNormal (m + 1) (map (shifted n 1) ts) → AreShortNormal m ts
    each [] ihs m low ks = AreShortNormal.none
    each (t ∷ ts) ihs m low ks = let (k, rest) = short.heads ks in AreShortNormal.more (ihs.0 m low k) (each ts ihs.1 m low rest)

-- what a neutral term contracts to is short, and neither an abstraction nor a tuple
pub record IsShortNeutral (n : ℕ) (t : Term) : Type 0 where
  pub is_short : IsShortNormal n t
  pub no_abstraction : is_abstraction t ≡ false
  pub no_tuple : (m : ℕ) → is_tuple_of m t ≡ false

short_var : (n i : ℕ) (u : Term) → u ≡ term.Var i → IsShortNeutral n u
short_var n i u is = subst (IsShortNeutral n) (sym is) (record {
  is_short = IsShortNormal.var i;
  no_abstraction = ap abstraction_form (out_var i);
  no_tuple = λ m. ap (tuple_form m) (out_var i);
})

short_app : (n : ℕ) (g h u : Term) → u ≡ term.App g h → IsShortNeutral n g → IsShortNormal n h → IsShortNeutral n u
short_app n g h u is function argument = subst (IsShortNeutral n) (sym is) (record {
  is_short = IsShortNormal.app g h function.no_abstraction function.is_short argument;
  no_abstraction = ap abstraction_form (out_app g h);
  no_tuple = λ m. ap (tuple_form m) (out_app g h);
})

short_proj : (n i count : ℕ) (h u : Term) → u ≡ term.Proj i count h → IsShortNeutral n h → IsShortNeutral n u
short_proj n i count h u is projected = subst (IsShortNeutral n) (sym is) (record {
  is_short = IsShortNormal.proj i count h (projected.no_tuple count) projected.is_short;
  no_abstraction = ap abstraction_form (out_proj i count h);
  no_tuple = λ m. ap (tuple_form m) (out_proj i count h);
})

short_lam : (n : ℕ) (a : Ty) (t u : Term) → ((v : Term) → IsContraction (n + 1) t v → IsShortNormal (n + 1) v) → OfAbstraction n a t u → IsShortNormal n u
short_lam n a t u body (OfAbstraction.lam w k lacks) = IsShortNormal.lam a w lacks (body w k)
short_lam n a t u body (OfAbstraction.eta f k) =
    let low : n ≤ n = omega arith in
    short_before n u n low (short.of_app (n + 1) (shifted n 1 u) (term.Var n) (body _ k)).1

first_short : (n : ℕ) (e : Term) (m : ℕ) → 2 ≤ m → AreShortNormal n (all_projections e m) → IsShortNormal n e
first_short n e zero two ks = let never : ⊥ = omega (arith, two) in absurd never
first_short n e (suc m) two ks = (short.of_proj n 1 (suc m) e (short.heads ks).0).1

short_tup : (n : ℕ) (ts : List Term) (u : Term) → ((vs : List Term) → AreContractions n ts vs → AreShortNormal n vs) → OfTuple n ts u → IsShortNormal n u
short_tup n ts u components (OfTuple.tup us ks lacks) = IsShortNormal.tup us lacks (components us ks)
short_tup n ts u components (OfTuple.surjective_pairing e m two ks) = first_short n u m two (components _ ks)

mutual
  shortened : {t : Term} → IsNormal t → (n : ℕ) (u : Term) → IsContraction n t u → IsShortNormal n u
  shortened (IsNormal.lam a t k) n u c = short_lam n a t u (shortened k (n + 1)) (of_lam n a t u c)
  shortened (IsNormal.tup ts ks) n u c = short_tup n ts u (shortened_each ks n) (of_tup n ts u c)
  shortened (IsNormal.neutral k) n u c = (shortened_neutral k n u c).is_short

  shortened_neutral : {t : Term} → IsNeutral t → (n : ℕ) (u : Term) → IsContraction n t u → IsShortNeutral n u
  shortened_neutral (IsNeutral.var i) n u c = short_var n i u (of_var n i u c)
  shortened_neutral (IsNeutral.app f e k l) n u c =
      let (g, h, is, kc, lc) = of_app n f e u c in
      short_app n g h u is (shortened_neutral k n g kc) (shortened l n h lc)
  shortened_neutral (IsNeutral.proj i count e k) n u c =
      let (h, is, kc) = of_proj n i count e u c in
      short_proj n i count h u is (shortened_neutral k n h kc)

  shortened_each : {ts : List Term} → AreNormal ts → (n : ℕ) (us : List Term) → AreContractions n ts us → AreShortNormal n us
  shortened_each AreNormal.none n us AreContractions.none = AreShortNormal.none
  shortened_each (AreNormal.more k ks) n us (AreContractions.more {u = v} {us = vs} l ls) = AreShortNormal.more (shortened k n v l) (shortened_each ks n vs ls)

pub normal_contraction_short : (n : ℕ) (t u : Term) → IsNormal t → IsContraction n t u → IsShortNormal n u
normal_contraction_short n t u k c = shortened k n u c
