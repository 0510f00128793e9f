-- Typing is kept by traversals whose images fit, and so by shifting and by substitution.
use Rattle.std.proofs.Common.{◌≡◌, ℕ, ◌+◌, ◌-◌, List, [], ◌∷◌, ◌++◌, map, refl, sym, ap, ◌∙◌, subst, subst₂, arith, ◌<◌, ◌≤◌, ◌⊎◌, inl, inr, length, slice_get, Some, zero, suc, append_assoc, append-nil, length-append, if◌then◌else◌, lt-ltb, le-ltb}
use Rattle.type_core.specs.declared.ty.Ty.{Ty}
use Rattle.type_core.specs.declared.ty.Ty.TheVariants as ty
use Rattle.type_core.specs.Types.{IsType}
use Rattle.conv_terms.specs.declared.term.Term.{Term}
use Rattle.conv_terms.specs.declared.term.Term.TheVariants as term
use Rattle.conv_terms.specs.Shifting.{raised, shifted}
use Rattle.conv_terms.specs.Substitution.{Images, traversed, each_below, image, images, substituted, substituted_all, only}
use Rattle.conv_terms.proofs.Equations.{traversed_var, traversed_lam, traversed_app, traversed_tup, traversed_proj}
use Rattle.conv_terms.proofs.Moving.{raising, shifted_traversed, raised_low, raised_high, images_known, images_other, below_or_from, substituted_one}
use Rattle.conv_typing.specs.Typing.{HasType, HaveTypes, AreTyped}
use Rattle.conv_terms.proofs.Forms.{some_is, none_not}

pub get_left : (g d : List Ty) (n : ℕ) → n < length g → slice_get (g ++ d) n ≡ slice_get g n
get_left [] d n h = let never : ⊥ = omega arith in absurd never
get_left (a ∷ g) d zero h = refl
get_left (a ∷ g) d (suc n) h = let less : n < length g = omega arith in get_left g d n less

pub get_right : (g d : List Ty) (n : ℕ) → length g ≤ n → slice_get (g ++ d) n ≡ slice_get d (n - length g)
get_right [] d n h = let e : n ≡ n - 0 = omega arith in ap (slice_get d) e
get_right (a ∷ g) d zero h = let never : ⊥ = omega arith in absurd never
get_right (a ∷ g) d (suc n) h =
    let less : length g ≤ n = omega arith in
    let e : n - length g ≡ suc n - suc (length g) = omega arith in
    get_right g d n less ∙ ap (slice_get d) e

-- below inner binders too, what becomes of a variable of the one context has its type in the other
abbrev pub Fits : Images → List Ty → List Ty → Type 0
Fits at g h = (inner : List Ty) (n : ℕ) (a : Ty) → slice_get (g ++ inner) n ≡ Some a → IsType a → HasType (h ++ inner) (at n (length inner)) a

pub longer : (g inner ctx : List Ty) (a : Ty) → ctx ≡ g ++ inner → ctx ++ a ∷ [] ≡ g ++ (inner ++ a ∷ [])
longer g inner ctx a is = ap (λ x. x ++ a ∷ []) is ∙ append_assoc g inner (a ∷ [])

pub one_more : (inner : List Ty) (a : Ty) → length (inner ++ a ∷ []) ≡ length inner + 1
one_more inner a = grind (arith, length-append)

module _ (at : Images) (g h : List Ty) (fits : Fits at g h) where
  mutual
    pub traversed_typed : {ctx : List Ty} {t : Term} {a : Ty} → HasType ctx t a → (inner : List Ty) → ctx ≡ g ++ inner → HasType (h ++ inner) (traversed at t (length inner)) a
    traversed_typed {a = a} (HasType.var n p l) inner is =
        subst (λ t. HasType (h ++ inner) t a) (sym (traversed_var at n (length inner))) (fits inner n a (subst (λ x. slice_get x n ≡ Some a) is p) l)
    traversed_typed {ctx = ctx} (HasType.lam a {b} body l k) inner is =
        let below = traversed_typed k (inner ++ a ∷ []) (longer g inner ctx a is) in
        subst (λ t. HasType (h ++ inner) t (ty.Arrow a b)) (sym (traversed_lam at a body (length inner)))
        (HasType.lam a _ l (subst₂ (λ x d. HasType x (traversed at body d) b) (sym (append_assoc h inner (a ∷ []))) (one_more inner a) below))
    traversed_typed {a = b} (HasType.app f e k l) inner is =
        subst (λ t. HasType (h ++ inner) t b) (sym (traversed_app at f e (length inner))) (HasType.app _ _ (traversed_typed k inner is) (traversed_typed l inner is))
    traversed_typed (HasType.tup terms types less ks) inner is =
        subst (λ t. HasType (h ++ inner) t (ty.Tup types)) (sym (traversed_tup at terms (length inner))) (HasType.tup _ types less (traversed_each ks inner is))
    traversed_typed {a = a} (HasType.proj i e types less p k) inner is =
        subst (λ t. HasType (h ++ inner) t a) (sym (traversed_proj at (i + 1) (length types) e (length inner))) (HasType.proj i _ types less p (traversed_typed k inner is))

    pub traversed_each : {ctx : List Ty} {terms : List Term} {types : List Ty} → HaveTypes ctx terms types → (inner : List Ty) → ctx ≡ g ++ inner → HaveTypes (h ++ inner) (each_below (map (traversed at) terms) (length inner)) types
    traversed_each HaveTypes.none inner is = HaveTypes.none
    traversed_each (HaveTypes.more k ks) inner is = HaveTypes.more (traversed_typed k inner is) (traversed_each ks inner is)

-- what is found for a variable, before the shift and after
pub shifted_variable : (g x inner : List Ty) (n : ℕ) → slice_get ((g ++ x) ++ inner) (raised (length g) (length x) n) ≡ slice_get (g ++ inner) n
shifted_variable g x inner n = cases (below_or_from n (length g))
  where
    cases : (n < length g) ⊎ (length g ≤ n) → slice_get ((g ++ x) ++ inner) (raised (length g) (length x) n) ≡ slice_get (g ++ inner) n
    cases (inl h) =
        ap (slice_get ((g ++ x) ++ inner)) (raised_low (length g) (length x) n h) ∙ ap (λ y. slice_get y n) (append_assoc g x inner)
        ∙ get_left g (x ++ inner) n h ∙ sym (get_left g inner n h)
    cases (inr h) =
        let e : n + length x - length g - length x ≡ n - length g = omega arith in
        let one : length g ≤ n + length x = omega arith in
        let two : length x ≤ n + length x - length g = omega arith in
        ap (slice_get ((g ++ x) ++ inner)) (raised_high (length g) (length x) n h) ∙ ap (λ y. slice_get y (n + length x)) (append_assoc g x inner)
        ∙ get_right g (x ++ inner) _ one ∙ get_right x inner _ two ∙ ap (slice_get inner) e ∙ sym (get_right g inner n h)

pub shift_fits : (g x : List Ty) → Fits (raising (length g) (length x)) g (g ++ x)
shift_fits g x d n a l is = HasType.var (raised (length g) (length x) n) (shifted_variable g x d n ∙ l) is

-- a context may be made longer in the middle
pub shifted_typed : (g x d : List Ty) (t : Term) (a : Ty) → HasType (g ++ d) t a → HasType ((g ++ x) ++ d) (shifted (length g) (length x) t) a
shifted_typed g x d t a k = subst (λ u. HasType ((g ++ x) ++ d) u a) (sym (shifted_traversed (length g) (length x) t (length d))) (traversed_typed (raising (length g) (length x)) g (g ++ x) (shift_fits g x) k d refl)

pub shifted_typed_end : (g x : List Ty) (t : Term) (a : Ty) → HasType g t a → HasType (g ++ x) (shifted (length g) (length x) t) a
shifted_typed_end g x t a k = subst (λ c. HasType c (shifted (length g) (length x) t) a) (append-nil (g ++ x)) (shifted_typed g x [] t a (subst (λ c. HasType c t a) (sym (append-nil g)) k))

-- terms for all variables
pub terms_fit : (terms : ℕ → Term) (g h : List Ty) → AreTyped terms g h → Fits (images (length g) (length h) terms) g h
terms_fit terms g h typed d n a l is = cases (below_or_from n (length g))
  where
    cases : (n < length g) ⊎ (length g ≤ n) → HasType (h ++ d) (images (length g) (length h) terms n (length d)) a
    cases (inl i) = subst (λ t. HasType (h ++ d) t a) (sym (images_known (length g) (length h) terms n (length d) i)) (shifted_typed_end h d (terms n) a (typed n a (sym (get_left g d n i) ∙ l) is))
    cases (inr i) =
        let high : length h ≤ n - length g + length h = omega arith in
        let e : n - length g + length h - length h ≡ n - length g = omega arith in
        subst (λ t. HasType (h ++ d) t a) (sym (images_other (length g) (length h) terms n (length d) i))
        (HasType.var _ (get_right h d _ high ∙ ap (slice_get d) e ∙ sym (get_right g d n i) ∙ l) is)

pub all_typed : (ctx others inner : List Ty) (terms : ℕ → Term) (t : Term) (a : Ty) → AreTyped terms ctx others → HasType (ctx ++ inner) t a → HasType (others ++ inner) (substituted_all (length ctx) (length others) terms t (length inner)) a
all_typed ctx others inner terms t a typed k = traversed_typed (images (length ctx) (length others) terms) ctx others (terms_fit terms ctx others typed) k inner refl

-- a term for the last variable
alone : (b a : Ty) (n : ℕ) → slice_get (b ∷ []) n ≡ Some a → b ≡ a
alone b a zero p = some_is b a p
alone b a (suc n) p = absurd (none_not a p)

pub only_typed : (g : List Ty) (b : Ty) (e : Term) → HasType g e b → AreTyped (only (length g) e) (g ++ b ∷ []) g
only_typed g b e k n a p is = cases (below_or_from n (length g))
  where
    cases : (n < length g) ⊎ (length g ≤ n) → HasType g (only (length g) e n) a
    cases (inl h) = subst (λ c. HasType g (if c then term.Var n else e) a) (sym (lt-ltb n (length g) h)) (HasType.var n (sym (get_left g (b ∷ []) n h) ∙ p) is)
    cases (inr h) = subst₂ (λ c x. HasType g (if c then term.Var n else e) x) (sym (le-ltb n (length g) h)) (alone b a _ (sym (get_right g (b ∷ []) n h) ∙ p)) k

-- below inner binders too
pub substituted_below_typed : (ctx inner : List Ty) (b : Ty) (e t : Term) (a : Ty) → HasType ctx e b → HasType ((ctx ++ b ∷ []) ++ inner) t a → HasType (ctx ++ inner) (traversed (image (length ctx) e) t (length inner)) a
substituted_below_typed ctx inner b e t a k l =
    let all = all_typed (ctx ++ b ∷ []) ctx inner (only (length ctx) e) t a (only_typed ctx b e k) l in
    let one = ap (λ n. traversed (images n (length ctx) (only (length ctx) e)) t (length inner)) (one_more ctx b) ∙ sym (substituted_one (length ctx) (length inner) e t) in
    subst (λ u. HasType (ctx ++ inner) u a) one all

pub substituted_typed : (g : List Ty) (b : Ty) (e t : Term) (a : Ty) → HasType g e b → HasType (g ++ b ∷ []) t a → HasType g (substituted (length g) e t) a
substituted_typed g b e t a k l = subst (λ c. HasType c (substituted (length g) e t) a) (append-nil g)
    (substituted_below_typed g [] b e t a k (subst (λ c. HasType c t a) (sym (append-nil (g ++ b ∷ []))) l))
