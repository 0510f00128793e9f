-- Types that obey meetings make them consistent, and then what the variables are bound to obeys them too.
use Rattle.std.proofs.Common.{◌≡◌, ℕ, ◌<◌, ◌==◌, if◌then◌else◌, Bool, true, false, Option, Some, None, List, [], ◌∷◌, length, get_or, refl, sym, ap, ◌∙◌, subst, arith}
use Rattle.std.proofs.lemmas.List.FromFn.{get_or-map-range_with_len, length-map-range_with_len}
use Rattle.std.proofs.lemmas.Option.{slice_get-get_or}
use Rattle.type_core.specs.declared.ty.VarId.{VarId}
use Rattle.type_core.specs.declared.ty.Ty.{Ty}
use Rattle.type_core.specs.Substitution.{or_variable}
use Rattle.type_core.proofs.Trees.{EachOf}
use Rattle.iso_axioms.specs.Axioms.{unit}
use Rattle.iso_normal.specs.declared.factor.Factor.{Factor}
use Rattle.iso_normal.specs.Agreement.{Agree}
use Rattle.iso_normal.specs.Factors.{AreFactors, factors}
use Rattle.iso_normal.proofs.Agreeing.{agree_of_eq, agree_refl, agree_sym, agree_trans}
use Rattle.iso_normal.proofs.Reified.{factors_kept}
use Rattle.linear_match.specs.Meetings.{AreConsistent, Fits, FitsAll, Meeting, Obeys, ObeysAll, binding, bindings, bound_to, exactly, first_factors, first_type, loosely, type_for}

abbrev pub variable_of : Meeting → VarId
variable_of (loosely v fs) = v
variable_of (exactly v t) = v

-- a meeting of a variable whose number is below
abbrev pub IsBelow : ℕ → Meeting → Type 0
IsBelow count m = (variable_of m).n < count

-- what is met loosely are factors
abbrev pub IsRead : Meeting → Type 0
IsRead (loosely v fs) = AreFactors fs
IsRead (exactly v t) = Unit {0}

pub data In (m : Meeting) : List Meeting → Type 0 where
  here : (ms : List Meeting) → In m (m ∷ ms)
  after : {ms : List Meeting} (n : Meeting) → In m ms → In m (n ∷ ms)

pub of_each : (P : Meeting → Type 0) {m : Meeting} {ms : List Meeting} → EachOf P ms → In m ms → P m
of_each P all (here _) = all.0
of_each P all (after _ i) = of_each P all.1 i

-- each two of consistent meetings fit
fits_itself : (m : Meeting) → Fits m m
fits_itself (loosely v fs) = λ e. agree_refl fs
fits_itself (exactly v t) = λ e. refl

pub fits_back : (m n : Meeting) → Fits m n → Fits n m
fits_back (loosely v fs) (loosely w gs) f = λ e. agree_sym (f (sym e))
fits_back (loosely v fs) (exactly w t) f = λ e. f (sym e)
fits_back (exactly v t) (loosely w gs) f = λ e. f (sym e)
fits_back (exactly v t) (exactly w u) f = λ e. sym (f (sym e))

fits_one : (m : Meeting) {n : Meeting} {ms : List Meeting} → FitsAll m ms → In n ms → Fits m n
fits_one m all (here _) = all.0
fits_one m all (after _ i) = fits_one m all.1 i

pub all_fit : {m n : Meeting} {ms : List Meeting} → AreConsistent ms → In m ms → In n ms → Fits m n
all_fit {m} c (here _) (here _) = fits_itself m
all_fit {m} c (here _) (after _ j) = fits_one m c.0 j
all_fit {m} {n} c (after _ i) (here _) = fits_back n m (fits_one n c.0 i)
all_fit c (after _ i) (after _ j) = all_fit c.1 i j

-- the first meetings of a number
pub some_is : {A : Type 0} {x y : A} → Some x ≡ Some y → x ≡ y
some_is e = cc e

pub not_some : {A : Type 0} {x : A} → None ≡ Some x → ⊥
not_some e = cc e

equal_number : (m n : ℕ) → (m == n) ≡ true → m ≡ n
equal_number m n e = grind (arith, e)

same_number : (n : ℕ) → (n == n) ≡ true
same_number n = grind arith

type_step : (v : VarId) (n : ℕ) (t u : Ty) (ms : List Meeting) (o : Option Ty) (b : Bool) → (v.n == n) ≡ b
    → (o ≡ Some t → (w : VarId) × (w.n ≡ n) × In (exactly w t) ms)
    → (if b then Some u else o) ≡ Some t → (w : VarId) × (w.n ≡ n) × In (exactly w t) (exactly v u ∷ ms)
type_step v n t u ms o true c go e =
    (v, equal_number v.n n c, subst (λ x. In (exactly v x) (exactly v u ∷ ms)) (some_is e) (here ms))
type_step v n t u ms o false c go e = let r = go e in (r.0, r.1, after _ r.2)

pub type_found : (n : ℕ) (ms : List Meeting) (t : Ty) → first_type n ms ≡ Some t
    → (v : VarId) × (v.n ≡ n) × In (exactly v t) ms
type_found n [] t e = absurd (not_some e)
type_found n (loosely v fs ∷ ms) t e = let r = type_found n ms t e in (r.0, r.1, after _ r.2)
type_found n (exactly v u ∷ ms) t e = type_step v n t u ms (first_type n ms) (v.n == n) refl (type_found n ms t) e

factors_step : (v : VarId) (n : ℕ) (fs gs : List Factor) (ms : List Meeting) (o : Option (List Factor)) (b : Bool)
    → (v.n == n) ≡ b → (o ≡ Some fs → (w : VarId) × (w.n ≡ n) × In (loosely w fs) ms)
    → (if b then Some gs else o) ≡ Some fs → (w : VarId) × (w.n ≡ n) × In (loosely w fs) (loosely v gs ∷ ms)
factors_step v n fs gs ms o true c go e =
    (v, equal_number v.n n c, subst (λ x. In (loosely v x) (loosely v gs ∷ ms)) (some_is e) (here ms))
factors_step v n fs gs ms o false c go e = let r = go e in (r.0, r.1, after _ r.2)

pub factors_found : (n : ℕ) (ms : List Meeting) (fs : List Factor) → first_factors n ms ≡ Some fs
    → (v : VarId) × (v.n ≡ n) × In (loosely v fs) ms
factors_found n [] fs e = absurd (not_some e)
factors_found n (loosely v gs ∷ ms) fs e =
    factors_step v n fs gs ms (first_factors n ms) (v.n == n) refl (factors_found n ms fs) e
factors_found n (exactly v t ∷ ms) fs e = let r = factors_found n ms fs e in (r.0, r.1, after _ r.2)

none_taken : {A : Type 0} {b : Bool} (x : A) (o : Option A) → b ≡ true → (if b then Some x else o) ≡ None → ⊥
none_taken {A} x o c e = not_some (sym (subst (λ b. (if b then Some x else o) ≡ None) c e))

none_later : {A : Type 0} (b : Bool) (x : A) (o : Option A) → (o ≡ None → ⊥) → (if b then Some x else o) ≡ None → ⊥
none_later true x o go e = not_some (sym e)
none_later false x o go e = go e

pub type_there : {v : VarId} {t : Ty} {ms : List Meeting} → In (exactly v t) ms → first_type v.n ms ≡ None → ⊥
type_there {v} {t} (here ms) e = none_taken t (first_type v.n ms) (same_number v.n) e
type_there (after (loosely w fs) i) e = type_there i e
type_there {v} (after {ms} (exactly w u) i) e = none_later (w.n == v.n) u (first_type v.n ms) (type_there i) e

pub factors_there : {v : VarId} {fs : List Factor} {ms : List Meeting} → In (loosely v fs) ms → first_factors v.n ms ≡ None
    → ⊥
factors_there {v} {fs} (here ms) e = none_taken fs (first_factors v.n ms) (same_number v.n) e
factors_there {v} (after {ms} (loosely w gs) i) e =
    none_later (w.n == v.n) gs (first_factors v.n ms) (factors_there i) e
factors_there (after (exactly w t) i) e = factors_there i e

-- what a variable is bound to
module _ {ms : List Meeting} (c : AreConsistent ms) (read : EachOf IsRead ms) where
  exact_settled : {v : VarId} {t : Ty} → In (exactly v t) ms → (o : Option Ty) (l : Option (List Factor))
      → first_type v.n ms ≡ o → bound_to o l ≡ t
  exact_settled {v} {t} i (Some u) l e = let r = type_found v.n ms u e in all_fit c r.2 i r.1
  exact_settled i None l e = absurd (type_there i e)

  loose_settled : {v : VarId} {fs : List Factor} → In (loosely v fs) ms → (o : Option Ty) (l : Option (List Factor))
      → first_type v.n ms ≡ o → first_factors v.n ms ≡ l
      → Agree (factors (bound_to o l)) fs
  loose_settled {v} i (Some u) l e g = let r = type_found v.n ms u e in all_fit c r.2 i r.1
  loose_settled {v} i None (Some gs) e g = let r = factors_found v.n ms gs g in
      agree_trans (agree_of_eq (factors_kept gs (of_each IsRead read r.2))) (all_fit c r.2 i r.1)
  loose_settled i None None e g = absurd (factors_there i g)

  pub exact_bound : {v : VarId} {t : Ty} → In (exactly v t) ms → binding ms v.n ≡ t
  exact_bound i = exact_settled i _ _ refl

  pub loose_bound : {v : VarId} {fs : List Factor} → In (loosely v fs) ms → Agree (factors (binding ms v.n)) fs
  loose_bound i = loose_settled i _ _ refl refl

-- the type for a variable whose number is below the length of the list
pub type_at : (by : List Ty) (v : VarId) → v.n < length by → type_for by v ≡ get_or by v.n unit
type_at by v l = ap (or_variable v) (slice_get-get_or by v.n unit l)

pub type_bound : (count : ℕ) (ms : List Meeting) (v : VarId) → v.n < count
    → type_for (bindings count ms) v ≡ binding ms v.n
type_bound count ms v l =
    type_at (bindings count ms) v (subst (λ n. v.n < n) (sym (length-map-range_with_len (binding ms) 0 count)) l)
    ∙ get_or-map-range_with_len (binding ms) 0 count v.n v.n unit l (omega arith)

pub same_type : (by : List Ty) (v w : VarId) → v.n < length by → v.n ≡ w.n → type_for by v ≡ type_for by w
same_type by v w l e = type_at by v l ∙ ap (λ n. get_or by n unit) e
    ∙ sym (type_at by w (subst (λ n. n < length by) e l))

-- consistent meetings are obeyed by what the variables are bound to
each_obeyed : (by : List Ty) (ms : List Meeting) → ((m : Meeting) → In m ms → Obeys by m) → ObeysAll by ms
each_obeyed by [] f = tt
each_obeyed by (m ∷ ms) f = (f m (here ms), each_obeyed by ms (λ n i. f n (after m i)))

one_obeyed : (count : ℕ) {ms : List Meeting} → AreConsistent ms → EachOf IsRead ms → EachOf (IsBelow count) ms
    → (m : Meeting) → In m ms → Obeys (bindings count ms) m
one_obeyed count {ms} c read low (loosely v fs) i =
    subst (λ t. Agree (factors t) fs) (sym (type_bound count ms v (of_each (IsBelow count) low i)))
    (loose_bound c read i)
one_obeyed count {ms} c read low (exactly v t) i = type_bound count ms v (of_each (IsBelow count) low i)
    ∙ exact_bound c read i

pub consistent_obeyed : (count : ℕ) (ms : List Meeting) → AreConsistent ms → EachOf IsRead ms
    → EachOf (IsBelow count) ms → ObeysAll (bindings count ms) ms
consistent_obeyed count ms c read low = each_obeyed (bindings count ms) ms (one_obeyed count c read low)

-- meetings that types obey are consistent
module _ (by : List Ty) where
  two_fit : (m n : Meeting) → IsBelow (length by) m → Obeys by m → Obeys by n → Fits m n
  two_fit (loosely v fs) (loosely w gs) l o p = λ e.
      agree_trans (agree_sym o) (subst (λ t. Agree (factors t) gs) (sym (same_type by v w l e)) p)
  two_fit (loosely v fs) (exactly w t) l o p = λ e. subst (λ u. Agree (factors u) fs) (same_type by v w l e ∙ p) o
  two_fit (exactly v t) (loosely w gs) l o p = λ e. subst (λ u. Agree (factors u) gs) (sym (same_type by v w l e) ∙ o) p
  two_fit (exactly v t) (exactly w u) l o p = λ e. sym o ∙ same_type by v w l e ∙ p

  one_fits : (m : Meeting) (ms : List Meeting) → IsBelow (length by) m → Obeys by m → ObeysAll by ms → FitsAll m ms
  one_fits m [] l o all = tt
  one_fits m (n ∷ ms) l o all = (two_fit m n l o all.0, one_fits m ms l o all.1)

  pub obeyed_consistent : (ms : List Meeting) → EachOf (IsBelow (length by)) ms → ObeysAll by ms → AreConsistent ms
  obeyed_consistent [] low all = tt
  obeyed_consistent (m ∷ ms) low all = (one_fits m ms low.0 all.0 all.1, obeyed_consistent ms low.1 all.1)
