-- A factor is the arrow from its arguments to its results; and the parts into which factors are dealt and sorted are
-- factors.
use Rattle.std.proofs.Common.{◌≡◌, ◌⊎◌, inl, inr, ℕ, zero, suc, List, [], ◌∷◌, replicate, refl, sym, ap, ◌∙◌, subst}
use Rattle.type_core.specs.declared.ty.Ty.{Ty}
use Rattle.type_core.proofs.Trees.{EachOf}
use Rattle.iso_normal.specs.declared.factor.Factor.{Factor}
use Rattle.iso_normal.specs.declared.factor.Factor.TheVariants as factor
use Rattle.iso_normal.specs.declared.factor.Factor.TheVariants.{rolls-Atom, rolls-Arr}
use Rattle.iso_normal.specs.declared.factor.Factor.TheOpen.{Factor-F, Atom, Arr}
use Rattle.iso_normal.specs.declared.factor.Factor.TheViews.{out-Factor, roll-Factor, roll-out-Factor}
use Rattle.iso_normal.specs.Factors.{AreFactors, IsFactor, IsNotOneArrow, arrow, arrow_to, atom, factors_of_arrow, more, none, nothing, one_atom, several}
use Rattle.linear_match.specs.Splits.{Dealt, Sorted, dealt_more, dealt_none, keep, put_at, send, sorted_none}

pub is_atom : {f : Factor} {t : Ty} → out-Factor f ≡ Atom t → f ≡ factor.Atom t
is_atom {f} {t} e = sym (roll-out-Factor f) ∙ ap roll-Factor e ∙ rolls-Atom t

pub is_arrow : {f : Factor} {arguments results : List Factor} → out-Factor f ≡ Arr arguments results
    → f ≡ factor.Arr arguments results
is_arrow {f} {arguments} {results} e = sym (roll-out-Factor f) ∙ ap roll-Factor e ∙ rolls-Arr arguments results

pub one_arrow : (f : Factor) (others : List Factor) {results : List Factor} → IsNotOneArrow results
    → factors_of_arrow (f ∷ others) results ≡ factor.Arr (f ∷ others) results ∷ []
one_arrow f others nothing = refl
one_arrow f others (one_atom {g} t e) = ap (λ h. h ∷ []) (ap (arrow_to (f ∷ others)) e
    ∙ ap (λ h. factor.Arr (f ∷ others) (h ∷ [])) (sym (is_atom e)))
one_arrow f others (several g h gs) = refl

-- what an arrow among factors is made of
pub record IsWhole (f : Factor) (arguments results : List Factor) : Type 0 where
  pub left : AreFactors arguments
  pub right : AreFactors results
  pub again : factors_of_arrow arguments results ≡ f ∷ []

pub arr_same : {xs ys ps qs : List Factor} → Arr xs ps ≡ Arr ys qs → (xs ≡ ys) × (ps ≡ qs)
arr_same e = (cc e, cc e)

pub not_arr : {t : Ty} {ys qs : List Factor} → Atom t ≡ Arr ys qs → ⊥
not_arr e = cc e

whole_layer : {f : Factor} {x : Factor-F Factor} {arguments results : List Factor}
    → out-Factor f ≡ Arr arguments results → x ≡ Arr arguments results → IsFactor x → IsWhole f arguments results
whole_layer e i (atom t a) = absurd (not_arr i)
whole_layer {f} {arguments} {results} e i (arrow {f = g} {others} {results = rs} m n l) = let same = arr_same i in
    record {
      left = subst AreFactors same.0 m;
      right = subst AreFactors same.1 n;
      again =
          subst (λ xs. factors_of_arrow xs results ≡ f ∷ []) same.0
          (subst (λ rs. factors_of_arrow (g ∷ others) rs ≡ f ∷ []) same.1
          (one_arrow g others l ∙ ap (λ h. h ∷ []) (sym (is_arrow (e ∙ sym i)))));
    }

pub whole : {f : Factor} {arguments results : List Factor} → out-Factor f ≡ Arr arguments results → AreFactors (f ∷ [])
    → IsWhole f arguments results
whole e (more m none) = whole_layer e e m

-- what is so of a list where it is so of each of its factors
pub record IsOfEach (All : List Factor → Type 0) : Type 0 where
  pub nil : All []
  pub cons : {f : Factor} {fs : List Factor} → All (f ∷ []) → All fs → All (f ∷ fs)
  pub head : {f : Factor} {fs : List Factor} → All (f ∷ fs) → All (f ∷ [])
  pub tail : {f : Factor} {fs : List Factor} → All (f ∷ fs) → All fs

factors_head : {f : Factor} {fs : List Factor} → AreFactors (f ∷ fs) → AreFactors (f ∷ [])
factors_head (more m are) = more m none

factors_tail : {f : Factor} {fs : List Factor} → AreFactors (f ∷ fs) → AreFactors fs
factors_tail (more m are) = are

factors_cons : {f : Factor} {fs : List Factor} → AreFactors (f ∷ []) → AreFactors fs → AreFactors (f ∷ fs)
factors_cons (more m none) are = more m are

pub factors_of_each : IsOfEach AreFactors
factors_of_each = record { nil = none; cons = factors_cons; head = factors_head; tail = factors_tail }

module _ (All : List Factor → Type 0) (E : IsOfEach All) where
  pub sorted_all : {letters : List ℕ} {fs sent kept : List Factor} → Sorted letters fs sent kept → All fs
      → All sent × All kept
  sorted_all sorted_none a = (a, a)
  sorted_all (send f s) a = let r = sorted_all s (E.tail a) in (E.cons (E.head a) r.0, r.1)
  sorted_all (keep f s) a = let r = sorted_all s (E.tail a) in (r.0, E.cons (E.head a) r.1)

  all_empty : (n : ℕ) → EachOf All (replicate n [])
  all_empty zero = tt
  all_empty (suc n) = (E.nil, all_empty n)

  put_all : (k : ℕ) {f : Factor} (pieces : List (List Factor)) → All (f ∷ []) → EachOf All pieces
      → EachOf All (put_at k f pieces)
  put_all k [] a all = tt
  put_all zero (piece ∷ pieces) a all = (E.cons a all.0, all.1)
  put_all (suc k) (piece ∷ pieces) a all = (all.0, put_all k pieces a all.1)

  pub dealt_all : {n j : ℕ} {letters : List ℕ} {fs : List Factor} {pieces : List (List Factor)}
      → Dealt n j letters fs pieces → All fs → EachOf All pieces
  dealt_all {n} (dealt_none j) a = all_empty n
  dealt_all (dealt_more l f b d) a = put_all _ _ (E.head a) (dealt_all d (E.tail a))

-- whether a list is one single arrow
pub record IsOneArrow (fs : List Factor) : Type 0 where
  pub single : Factor
  pub is : fs ≡ single ∷ []
  pub arguments : List Factor
  pub results : List Factor
  pub out : out-Factor single ≡ Arr arguments results

one_or_not : (f : Factor) (x : Factor-F Factor) → out-Factor f ≡ x → IsOneArrow (f ∷ []) ⊎ IsNotOneArrow (f ∷ [])
one_or_not f (Atom t) e = inr (one_atom t e)
one_or_not f (Arr arguments results) e =
    inl (record { single = f; is = refl; arguments = arguments; results = results; out = e })

pub arrow_or_not : (fs : List Factor) → IsOneArrow fs ⊎ IsNotOneArrow fs
arrow_or_not [] = inr nothing
arrow_or_not (f ∷ []) = one_or_not f (out-Factor f) refl
arrow_or_not (f ∷ g ∷ fs) = inr (several f g fs)

not_both_layer : {f : Factor} {arguments results fs : List Factor} → out-Factor f ≡ Arr arguments results → fs ≡ f ∷ []
    → IsNotOneArrow fs → ⊥
not_both_layer e i nothing = no i where
  no : {f : Factor} → [] ≡ f ∷ [] → ⊥
  no i = cc i
not_both_layer e i (one_atom {g} t a) = not_arr (sym a ∙ ap out-Factor (same i) ∙ e) where
  same : {f g : Factor} → g ∷ [] ≡ f ∷ [] → g ≡ f
  same i = cc i
not_both_layer e i (several g h rest) = no i where
  no : {f g h : Factor} {rest : List Factor} → g ∷ h ∷ rest ≡ f ∷ [] → ⊥
  no i = cc i

pub not_both : {f : Factor} {arguments results : List Factor} → out-Factor f ≡ Arr arguments results
    → IsNotOneArrow (f ∷ []) → ⊥
not_both e n = not_both_layer e refl n
