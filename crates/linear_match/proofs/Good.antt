-- Meetings that are good stay good without the last ones, and one more is good where it fits the first of its
-- variable.
use Rattle.std.proofs.Common.{◌≡◌, ℕ, ◌==◌, ◌&&◌, ◌||◌, true≢false, if◌then◌else◌, Bool, true, false, IsTrue, Option, Some, None, List, [], ◌∷◌, ◌++◌, ◌⊎◌, inl, inr, refl, sym, ap, ◌∙◌, subst, arith}
use Rattle.type_core.specs.declared.names.TypeName.{TypeName}
use Rattle.type_core.specs.declared.ty.VarId.{VarId}
use Rattle.type_core.specs.declared.ty.Ty.{Ty}
use Rattle.type_core.specs.AdmitsEquality.{AdmitsEquality}
use Rattle.iso_normal.specs.declared.factor.Factor.{Factor}
use Rattle.iso_normal.specs.Agreement.{Agree}
use Rattle.iso_normal.specs.Factors.{factors, type_of_factors}
use Rattle.iso_normal.proofs.Agreeing.{agree_sym, agree_trans}
use Rattle.linear_match.specs.Meetings.{AreConsistent, Fits, FitsAll, Meeting, binding, bound_to, exactly, first_factors, first_type, loosely}
use Rattle.linear_match.specs.search.Bindings.{AreGood, AreMarked, has_mark, variable_of}
use Rattle.linear_match.proofs.Bound.{In, after, all_fit, factors_found, factors_there, fits_back, here, type_found, type_there}
use Rattle.linear_match.proofs.Marked.{product_of_plain}

-- in the front, in the back, and in either
pub in_front : {m : Meeting} {ms : List Meeting} (ns : List Meeting) → In m ms → In m (ms ++ ns)
in_front ns (here ms) = here (ms ++ ns)
in_front ns (after n i) = after n (in_front ns i)

pub in_back : {m : Meeting} (ms : List Meeting) {ns : List Meeting} → In m ns → In m (ms ++ ns)
in_back [] i = i
in_back (n ∷ ms) i = after n (in_back ms i)

in_either : {m : Meeting} (ms : List Meeting) {ns : List Meeting} → In m (ms ++ ns) → In m ms ⊎ In m ns
in_either [] i = inr i
in_either (n ∷ ms) (here _) = inl (here ms)
in_either (n ∷ ms) (after _ i) = elim (in_either ms i) [ inl j ↦ inl (after n j) | inr j ↦ inr j ]

-- consistency by pairs
all_ahead : (m : Meeting) (ms : List Meeting) → ((n : Meeting) → In n ms → Fits m n) → FitsAll m ms
all_ahead m [] f = tt
all_ahead m (n ∷ ms) f = (f n (here ms), all_ahead m ms (λ k i. f k (after n i)))

consistent_by_pairs : (ms : List Meeting) → ((m n : Meeting) → In m ms → In n ms → Fits m n) → AreConsistent ms
consistent_by_pairs [] f = tt
consistent_by_pairs (m ∷ ms) f = (
  all_ahead m ms (λ n i. f m n (here ms) (after m i)),
  consistent_by_pairs ms
      (λ k n i j. f k n (after m i) (after m j)),
)

-- marks by members
abbrev pub MarkedIn : List TypeName → List Meeting → Meeting → Type 0
MarkedIn names all m = IsTrue (variable_of m).eq → AdmitsEquality names (binding all (variable_of m).n)

pub marked_one : (names : List TypeName) (all : List Meeting) {m : Meeting} {ms : List Meeting}
    → AreMarked names all ms → In m ms → MarkedIn names all m
marked_one names all marked (here _) = marked.0
marked_one names all marked (after _ i) = marked_one names all marked.1 i

pub marked_by_members : (names : List TypeName) (all ms : List Meeting)
    → ((m : Meeting) → In m ms → MarkedIn names all m) → AreMarked names all ms
marked_by_members names all [] f = tt
marked_by_members names all (m ∷ ms) f = (f m (here ms), marked_by_members names all ms (λ n i. f n (after m i)))

-- the first of joined lists
abbrev first_by : {A : Type 0} → Option A → Option A → Option A
first_by (Some x) o = Some x
first_by None o = o

if_first : {A : Type 0} (b : Bool) (x : A) (o p : Option A)
    → first_by (if b then Some x else o) p ≡ (if b then Some x else first_by o p)
if_first true x o p = refl
if_first false x o p = refl

type_joined : (n : ℕ) (ms ns : List Meeting) → first_type n (ms ++ ns) ≡ first_by (first_type n ms) (first_type n ns)
type_joined n [] ns = refl
type_joined n (loosely v fs ∷ ms) ns = type_joined n ms ns
type_joined n (exactly v t ∷ ms) ns = ap (λ o. if v.n == n then Some t else o) (type_joined n ms ns)
    ∙ sym (if_first (v.n == n) t (first_type n ms) (first_type n ns))

factors_joined : (n : ℕ) (ms ns : List Meeting)
    → first_factors n (ms ++ ns) ≡ first_by (first_factors n ms) (first_factors n ns)
factors_joined n [] ns = refl
factors_joined n (loosely v fs ∷ ms) ns = ap (λ o. if v.n == n then Some fs else o) (factors_joined n ms ns)
    ∙ sym (if_first (v.n == n) fs (first_factors n ms) (first_factors n ns))
factors_joined n (exactly v t ∷ ms) ns = factors_joined n ms ns

bound_joined : (n : ℕ) (ms ns : List Meeting)
    → binding (ms ++ ns) n ≡ bound_to (first_by (first_type n ms) (first_type n ns))
    (first_by (first_factors n ms) (first_factors n ns))
bound_joined n ms ns = ap (λ o. bound_to o (first_factors n (ms ++ ns))) (type_joined n ms ns)
    ∙ ap (bound_to (first_by (first_type n ms) (first_type n ns))) (factors_joined n ms ns)

-- a front of good meetings is good
module _ {names : List TypeName} (ms ns : List Meeting) (good : AreGood names (ms ++ ns)) where
  front_bound : {m : Meeting} → In m ms → (o : Option Ty) (l : Option (List Factor)) (p : Option Ty)
      → first_type (variable_of m).n ms ≡ o → first_factors (variable_of m).n ms ≡ l
      → first_type (variable_of m).n ns ≡ p
      → AdmitsEquality names (bound_to (first_by o p) (first_by l (first_factors (variable_of m).n ns)))
      → AdmitsEquality names (bound_to o l)
  front_bound i (Some t) l p e f g a = a
  front_bound i None (Some fs) None e f g a = a
  front_bound {m} i None (Some fs) (Some t) e f g a =
      let there = factors_found (variable_of m).n ms fs f in
      let later = type_found (variable_of m).n ns t g in
      product_of_plain names t fs a
      (all_fit good.consistent (in_back ms later.2) (in_front ns there.2) (later.1 ∙ sym there.1))
  front_bound {m = loosely v fs} i None None p e f g a = absurd (factors_there i f)
  front_bound {m = exactly v t} i None None p e f g a = absurd (type_there i e)

  pub good_front : AreGood names ms
  good_front = record {
    consistent = consistent_by_pairs ms (λ m n i j. all_fit good.consistent (in_front ns i) (in_front ns j));
    marked = marked_by_members names ms ms (λ m i e.
        front_bound i _ _ _ refl refl refl
        (subst (AdmitsEquality names) (bound_joined (variable_of m).n ms ns)
        (marked_one names (ms ++ ns) good.marked (in_front ns i) e)));
  }

-- what one meeting more makes of a number

not_number : (m n : ℕ) → (m ≡ n → ⊥) → (m == n) ≡ false
not_number m n d = grind (arith, d)

nothing_of : (m : Meeting) (n : ℕ) → ((variable_of m).n ≡ n → ⊥)
    → (first_type n (m ∷ []) ≡ None) × (first_factors n (m ∷ []) ≡ None)
nothing_of (loosely v fs) n d = (refl, ap (λ b. if b then Some fs else None) (not_number v.n n d))
nothing_of (exactly v t) n d = (ap (λ b. if b then Some t else None) (not_number v.n n d), refl)

first_by_none : {A : Type 0} (o : Option A) → first_by o None ≡ o
first_by_none (Some x) = refl
first_by_none None = refl

-- another number is bound as before
bound_else : (ms : List Meeting) (m : Meeting) (n : ℕ) → ((variable_of m).n ≡ n → ⊥)
    → binding (ms ++ m ∷ []) n ≡ binding ms n
bound_else ms m n d =
    let none = nothing_of m n d in
    bound_joined n ms (m ∷ [])
    ∙ ap (λ o. bound_to (first_by (first_type n ms) o) (first_by (first_factors n ms) (first_factors n (m ∷ []))))
    none.0
    ∙ ap (λ o. bound_to (first_by (first_type n ms) None) (first_by (first_factors n ms) o)) none.1
    ∙ ap (λ o. bound_to o (first_by (first_factors n ms) None)) (first_by_none (first_type n ms))
    ∙ ap (bound_to (first_type n ms)) (first_by_none (first_factors n ms))

-- one meeting more is good where it fits the others, and the types that its variable's number is bound to by then
-- admits
-- equality where the number has the mark
same_or_not : (m n : ℕ) → (m ≡ n) ⊎ (m ≡ n → ⊥)
same_or_not m n = by_test (m == n) refl where
  by_test : (b : Bool) → (m == n) ≡ b → (m ≡ n) ⊎ (m ≡ n → ⊥)
  by_test true e = inl (grind (arith, e))
  by_test false e = inr (λ f. grind (arith, e, f))

abbrev pub Bound : List Meeting → Meeting → Ty
Bound ms m = binding (ms ++ m ∷ []) (variable_of m).n

module _ {names : List TypeName} (ms : List Meeting) (m : Meeting) where
  pub good_more : AreGood names ms → ((k : Meeting) → In k ms → Fits k m)
      → (IsTrue (variable_of m).eq → AdmitsEquality names (Bound ms m))
      → ((k : Meeting) → In k ms → (variable_of m).n ≡ (variable_of k).n → IsTrue (variable_of k).eq
      → AdmitsEquality names (Bound ms m)) → AreGood names (ms ++ m ∷ [])
  good_more good fit mine others = record {
    consistent = consistent_by_pairs (ms ++ m ∷ []) (λ j k i l. pairs j k (in_either ms i) (in_either ms l));
    marked = marked_by_members names (ms ++ m ∷ []) (ms ++ m ∷ []) (λ k i. marks k (in_either ms i));
  } where
    only : {k : Meeting} → In k (m ∷ []) → k ≡ m
    only (here _) = refl
    only (after _ i) = elim i [ ]

    pairs : (j k : Meeting) → In j ms ⊎ In j (m ∷ []) → In k ms ⊎ In k (m ∷ []) → Fits j k
    pairs j k (inl i) (inl l) = all_fit good.consistent i l
    pairs j k (inl i) (inr l) = subst (Fits j) (sym (only l)) (fit j i)
    pairs j k (inr i) (inl l) = subst (λ x. Fits x k) (sym (only i)) (fits_back k m (fit k l))
    pairs j k (inr i) (inr l) =
        subst (λ x. Fits x k) (sym (only i))
        (subst (Fits m) (sym (only l)) (all_fit {m = m} {n = m} {ms = m ∷ []} (tt, tt) (here []) (here [])))

    old : (k : Meeting) → In k ms
        → (((variable_of m).n ≡ (variable_of k).n) ⊎ ((variable_of m).n ≡ (variable_of k).n → ⊥))
        → MarkedIn names (ms ++ m ∷ []) k
    old k i (inl e) h = subst (λ n. AdmitsEquality names (binding (ms ++ m ∷ []) n)) e (others k i e h)
    old k i (inr d) h = subst (AdmitsEquality names) (sym (bound_else ms m (variable_of k).n d))
        (marked_one names ms good.marked i h)

    marks : (k : Meeting) → In k ms ⊎ In k (m ∷ []) → MarkedIn names (ms ++ m ∷ []) k
    marks k (inl i) = old k i (same_or_not (variable_of m).n (variable_of k).n)
    marks k (inr i) = subst (MarkedIn names (ms ++ m ∷ [])) (sym (only i)) mine

  -- and only there
  pub more_fits : AreGood names (ms ++ m ∷ []) → (k : Meeting) → In k ms → Fits k m
  more_fits good k i = all_fit good.consistent (in_front (m ∷ []) i) (in_back ms (here []))

  pub more_marked : AreGood names (ms ++ m ∷ []) → IsTrue (variable_of m).eq → AdmitsEquality names (Bound ms m)
  more_marked good = marked_one names (ms ++ m ∷ []) good.marked (in_back ms (here []))

  pub other_marked : AreGood names (ms ++ m ∷ []) → (k : Meeting) → In k ms → (variable_of m).n ≡ (variable_of k).n
      → IsTrue (variable_of k).eq → AdmitsEquality names (Bound ms m)
  other_marked good k i e h = subst (λ n. AdmitsEquality names (binding (ms ++ m ∷ []) n)) (sym e)
      (marked_one names (ms ++ m ∷ []) good.marked (in_front (m ∷ []) i) h)

-- what fits the exact type of a number, or the first list where there is no exact type, fits all meetings of the
-- number
abbrev pub FitsType : Ty → Meeting → Type 0
FitsType t (loosely v fs) = Agree (factors t) fs
FitsType t (exactly v u) = t ≡ u

abbrev pub FitsFactors : List Factor → Meeting → Type 0
FitsFactors gs (loosely v fs) = Agree gs fs
FitsFactors gs (exactly v t) = Agree (factors t) gs

through_type : (t : Ty) (u : VarId) (k m : Meeting) → Fits (exactly u t) k → FitsType t m → u.n ≡ (variable_of m).n
    → Fits k m
through_type t u (loosely w gs) (loosely v fs) f g b = λ e. agree_trans (agree_sym (f (b ∙ sym e))) g
through_type t u (loosely w gs) (exactly v s) f g b = λ e. subst (λ t. Agree (factors t) gs) g (f (b ∙ sym e))
through_type t u (exactly w s) (loosely v fs) f g b = λ e. subst (λ t. Agree (factors t) fs) (f (b ∙ sym e)) g
through_type t u (exactly w s) (exactly v r) f g b = λ e. sym (f (b ∙ sym e)) ∙ g

through_factors : (gs : List Factor) (u : VarId) (k m : Meeting) → Fits (loosely u gs) k → FitsFactors gs m
    → u.n ≡ (variable_of m).n
    → ((v : VarId) (t : Ty) → k ≡ exactly v t → v.n ≡ (variable_of m).n → ⊥) → Fits k m
through_factors gs u (loosely w hs) (loosely v fs) f g b none = λ e. agree_trans (agree_sym (f (b ∙ sym e))) g
through_factors gs u (loosely w hs) (exactly v s) f g b none = λ e. agree_trans g (f (b ∙ sym e))
through_factors gs u (exactly w s) (loosely v fs) f g b none = λ e. absurd (none w s refl e)
through_factors gs u (exactly w s) (exactly v r) f g b none = λ e. absurd (none w s refl e)

through_nothing : (k m : Meeting) → ((variable_of k).n ≡ (variable_of m).n → ⊥) → Fits k m
through_nothing (loosely w hs) (loosely v fs) none = λ e. absurd (none e)
through_nothing (loosely w hs) (exactly v s) none = λ e. absurd (none e)
through_nothing (exactly w s) (loosely v fs) none = λ e. absurd (none e)
through_nothing (exactly w s) (exactly v r) none = λ e. absurd (none e)

fits_type_of : (t : Ty) (u : VarId) (m : Meeting) → u.n ≡ (variable_of m).n → Fits (exactly u t) m → FitsType t m
fits_type_of t u (loosely v fs) e f = f e
fits_type_of t u (exactly v s) e f = f e

fits_factors_of : (gs : List Factor) (u : VarId) (m : Meeting) → u.n ≡ (variable_of m).n → Fits (loosely u gs) m
    → FitsFactors gs m
fits_factors_of gs u (loosely v fs) e f = f e
fits_factors_of gs u (exactly v t) e f = f e

-- a meeting's own part of what its number is bound to
abbrev pub own_type : Meeting → Option Ty
own_type (loosely v fs) = None
own_type (exactly v t) = Some t

abbrev pub own_factors : Meeting → Option (List Factor)
own_factors (loosely v fs) = Some fs
own_factors (exactly v t) = None

same_is_same : (n : ℕ) → (n == n) ≡ true
same_is_same n = grind arith

own_first : (m : Meeting)
    → (first_type (variable_of m).n (m ∷ []) ≡ own_type m) ×
    (first_factors (variable_of m).n (m ∷ []) ≡ own_factors m)
own_first (loosely v fs) = (refl, ap (λ b. if b then Some fs else None) (same_is_same v.n))
own_first (exactly v t) = (ap (λ b. if b then Some t else None) (same_is_same v.n), refl)

own_bound : (ms : List Meeting) (m : Meeting) (o : Option Ty) (l : Option (List Factor))
    → first_type (variable_of m).n ms ≡ o → first_factors (variable_of m).n ms ≡ l
    → binding (ms ++ m ∷ []) (variable_of m).n ≡ bound_to (first_by o (own_type m)) (first_by l (own_factors m))
own_bound ms m o l e f = bound_joined (variable_of m).n ms (m ∷ [])
    ∙ ap (λ p. bound_to (first_by p (first_type (variable_of m).n (m ∷ [])))
    (first_by (first_factors (variable_of m).n ms) (first_factors (variable_of m).n (m ∷ [])))) e
    ∙ ap (λ p. bound_to (first_by o (first_type (variable_of m).n (m ∷ [])))
    (first_by p (first_factors (variable_of m).n (m ∷ [])))) f
    ∙ ap (λ p. bound_to (first_by o p) (first_by l (first_factors (variable_of m).n (m ∷ [])))) (own_first m).0
    ∙ ap (λ p. bound_to (first_by o (own_type m)) (first_by l p)) (own_first m).1

-- the type is one that admits equality, where the meeting's variable has the mark
abbrev pub Serves : List TypeName → Meeting → Ty → Type 0
Serves names m t = IsTrue (variable_of m).eq → AdmitsEquality names t

-- no meeting of the number has the mark
abbrev pub IsUnmarked : List Meeting → ℕ → Type 0
IsUnmarked ms n = (k : Meeting) → In k ms → (variable_of k).n ≡ n → IsTrue (variable_of k).eq → ⊥

module _ (ms : List Meeting) (m : Meeting) where
  -- there is an exact type
  module _ (t : Ty) (e : first_type (variable_of m).n ms ≡ Some t) where
    bound_type : Bound ms m ≡ t
    bound_type = own_bound ms m (Some t) (first_factors (variable_of m).n ms) e refl

    pub good_by_type : {names : List TypeName} → AreGood names ms → FitsType t m → Serves names m t
        → AreGood names (ms ++ m ∷ [])
    good_by_type {names} good fit marked =
        let there = type_found (variable_of m).n ms t e in
        good_more ms m good
        (λ k i. through_type t there.0 k m (all_fit good.consistent there.2 i) fit there.1)
        (λ h. subst (AdmitsEquality names) (sym bound_type) (marked h))
        (λ k i x h. subst (AdmitsEquality names)
        (ap (binding ms) (sym x) ∙ ap (λ o. bound_to o (first_factors (variable_of m).n ms)) e ∙ sym bound_type)
        (marked_one names ms good.marked i h))

    pub type_by_good : {names : List TypeName} → AreGood names (ms ++ m ∷ []) → FitsType t m × Serves names m t
    type_by_good {names} good =
        let there = type_found (variable_of m).n ms t e in (
          fits_type_of t there.0 m there.1 (more_fits ms m good (exactly there.0 t) there.2),
          λ h. subst
              (AdmitsEquality names) bound_type (more_marked ms m good h),
        )

  no_type : first_type (variable_of m).n ms ≡ None → {k : Meeting} → In k ms → (v : VarId) (t : Ty) → k ≡ exactly v t
      → v.n ≡ (variable_of m).n → ⊥
  no_type e i v t is x = type_there (subst (λ k. In k ms) is i) (subst (λ n. first_type n ms ≡ None) (sym x) e)

  -- there is none, but a list of factors, and a list comes
  module _ (gs : List Factor) (e : first_type (variable_of m).n ms ≡ None)
      (f : first_factors (variable_of m).n ms ≡ Some gs) where
    bound_list : Bound ms m ≡ bound_to (own_type m) (Some gs)
    bound_list = own_bound ms m None (Some gs) e f

    bound_to_list : binding ms (variable_of m).n ≡ type_of_factors gs
    bound_to_list = ap (λ o. bound_to o (first_factors (variable_of m).n ms)) e ∙ ap (bound_to None) f

    all_fits : {names : List TypeName} → AreGood names ms → FitsFactors gs m → (k : Meeting) → In k ms → Fits k m
    all_fits good fit k i =
        let there = factors_found (variable_of m).n ms gs f in
        through_factors gs there.0 k m (all_fit good.consistent there.2 i) fit there.1 (no_type e i)

    pub good_by_list : {names : List TypeName} → AreGood names ms → own_type m ≡ None → FitsFactors gs m
        → Serves names m (type_of_factors gs) → AreGood names (ms ++ m ∷ [])
    good_by_list {names} good none fit marked =
        let same : Bound ms m ≡ type_of_factors gs = bound_list ∙ ap (λ o. bound_to o (Some gs)) none in
        good_more ms m good (all_fits good fit)
        (λ h. subst (AdmitsEquality names) (sym same) (marked h))
        (λ k i x h. subst (AdmitsEquality names) (ap (binding ms) (sym x) ∙ bound_to_list ∙ sym same)
        (marked_one names ms good.marked i h))

    pub good_by_first_type : {names : List TypeName} → AreGood names ms → (t : Ty) → own_type m ≡ Some t
        → FitsFactors gs m → Serves names m t → (IsUnmarked ms (variable_of m).n ⊎ AdmitsEquality names t)
        → AreGood names (ms ++ m ∷ [])
    good_by_first_type {names} good t own fit marked others =
        let same : Bound ms m ≡ t = bound_list ∙ ap (λ o. bound_to o (Some gs)) own in
        good_more ms m good (all_fits good fit)
        (λ h. subst (AdmitsEquality names) (sym same) (marked h))
        (λ k i x h. subst (AdmitsEquality names) (sym same)
        (elim others [ inl u ↦ absurd (u k i (sym x) h) | inr a ↦ a ]))

    pub list_by_good : {names : List TypeName} → AreGood names (ms ++ m ∷ [])
        → FitsFactors gs m × Serves names m (bound_to (own_type m) (Some gs))
    list_by_good {names} good =
        let there = factors_found (variable_of m).n ms gs f in (
          fits_factors_of gs there.0 m there.1 (more_fits ms m good (loosely there.0 gs) there.2),
          λ h. subst
              (AdmitsEquality names) bound_list (more_marked ms m good h),
        )

    pub others_by_good : {names : List TypeName} → AreGood names (ms ++ m ∷ []) → (k : Meeting) → In k ms
        → (variable_of k).n ≡ (variable_of m).n → IsTrue (variable_of k).eq
        → AdmitsEquality names (bound_to (own_type m) (Some gs))
    others_by_good {names} good k i x h =
        subst (AdmitsEquality names) bound_list (other_marked ms m good k i (sym x) h)

  -- nothing was met yet
  module _ (e : first_type (variable_of m).n ms ≡ None) (f : first_factors (variable_of m).n ms ≡ None) where
    bound_new : Bound ms m ≡ bound_to (own_type m) (own_factors m)
    bound_new = own_bound ms m None None e f

    nobody : (k : Meeting) → In k ms → (variable_of k).n ≡ (variable_of m).n → ⊥
    nobody (loosely v fs) i x = factors_there i (subst (λ n. first_factors n ms ≡ None) (sym x) f)
    nobody (exactly v t) i x = type_there i (subst (λ n. first_type n ms ≡ None) (sym x) e)

    pub good_by_nothing : {names : List TypeName} → AreGood names ms
        → Serves names m (bound_to (own_type m) (own_factors m)) → AreGood names (ms ++ m ∷ [])
    good_by_nothing {names} good marked = good_more ms m good (λ k i. through_nothing k m (nobody k i))
        (λ h. subst (AdmitsEquality names) (sym bound_new) (marked h))
        (λ k i x h. absurd (nobody k i (sym x)))

    pub nothing_by_good : {names : List TypeName} → AreGood names (ms ++ m ∷ [])
        → Serves names m (bound_to (own_type m) (own_factors m))
    nothing_by_good {names} good h = subst (AdmitsEquality names) bound_new (more_marked ms m good h)

-- an exact type that comes first binds its number
pub marked_by_good : {names : List TypeName} (ms : List Meeting) (v : VarId) (t : Ty) → first_type v.n ms ≡ None
    → AreGood names (ms ++ exactly v t ∷ []) → Serves names (exactly v t) t
marked_by_good {names} ms v t e good h =
    subst (AdmitsEquality names) (own_bound ms (exactly v t) None (first_factors v.n ms) e refl)
    (more_marked ms (exactly v t) good h)

-- marks of a number
is_number : (m n : ℕ) → m ≡ n → (m == n) ≡ true
is_number m n e = grind (arith, e)

both_true : (a b : Bool) → a ≡ true → b ≡ true → (a && b) ≡ true
both_true true b e f = f
both_true false b e f = absurd (true≢false (sym e))

left_true : (a b : Bool) → a ≡ true → (a || b) ≡ true
left_true true b e = refl
left_true false b e = absurd (true≢false (sym e))

right_true : (a b : Bool) → b ≡ true → (a || b) ≡ true
right_true true b e = refl
right_true false b e = e

found_mark : (n : ℕ) (ms : List Meeting) {k : Meeting} → In k ms → (variable_of k).n ≡ n → IsTrue (variable_of k).eq
    → has_mark n ms ≡ true
found_mark n [] i e h = elim i [ ]
found_mark n (m ∷ ms) (here _) e h = left_true _ (has_mark n ms) (both_true _ _ (is_number (variable_of m).n n e) h)
found_mark n (m ∷ ms) (after _ i) e h = right_true (((variable_of m).n == n) && (variable_of m).eq) (has_mark n ms)
    (found_mark n ms i e h)

pub no_mark : (n : ℕ) (ms : List Meeting) → has_mark n ms ≡ false → IsUnmarked ms n
no_mark n ms e k i x h = true≢false (sym (found_mark n ms i x h) ∙ e)

either_true : (a b c : Bool) → ((a && b) || c) ≡ true → ((a ≡ true) × (b ≡ true)) ⊎ (c ≡ true)
either_true true true c e = inl (refl, refl)
either_true true false c e = inr e
either_true false b c e = inr e

equal_numbers : (m n : ℕ) → (m == n) ≡ true → m ≡ n
equal_numbers m n e = grind (arith, e)

pub some_mark : (n : ℕ) (ms : List Meeting) → has_mark n ms ≡ true
    → (k : Meeting) × In k ms × ((variable_of k).n ≡ n) × IsTrue (variable_of k).eq
some_mark n [] e = absurd (true≢false (sym e))
some_mark n (m ∷ ms) e = elim (either_true ((variable_of m).n == n) (variable_of m).eq (has_mark n ms) e) [
  | inl b ↦ (m, here ms, equal_numbers (variable_of m).n n b.0, b.1)
  | inr f ↦ let r = some_mark n ms f in (r.0, after m r.1, r.2, r.3)
]

pub agree_moved : {xs ys fs gs : List Factor} → xs ≡ fs → ys ≡ gs → Agree xs ys → Agree fs gs
agree_moved {xs} {ys} {fs} {gs} e f a = subst (Agree fs) f (subst (λ x. Agree x ys) e a)
