-- Conversion is kept by traversals whose images fit, and so by shifting and by substitution.
use Rattle.std.proofs.Common.{◌≡◌, ℕ, ◌+◌, ◌-◌, ◌<◌, ◌≤◌, ◌⊎◌, inl, inr, List, [], ◌∷◌, ◌++◌, map, refl, sym, ap, ap₂, ◌∙◌, subst, subst₂, arith, length, slice_get, option_map, Some, zero, suc, append_assoc, append-nil, length-append}
use Rattle.type_core.specs.declared.ty.Ty.{Ty}
use Rattle.type_core.specs.declared.ty.Ty.TheVariants as ty
use Rattle.type_core.specs.Types.{IsType}
use Rattle.conv_terms.specs.declared.term.Term.{Term}
use Rattle.conv_terms.specs.declared.term.Term.TheVariants as term
use Rattle.conv_terms.specs.Shifting.{shifted}
use Rattle.conv_terms.specs.Substitution.{Images, traversed, each_below, images, substituted, substituted_all}
use Rattle.conv_terms.proofs.Equations.{traversed_var, traversed_lam, traversed_app, traversed_tup, traversed_proj}
use Rattle.conv_terms.proofs.Moving.{raising, agreeing, shifted_traversed, below_or_from, images_known, images_other, all_of_shifted, all_of_substituted, raising_images}
use Rattle.conv_typing.specs.Typing.{HasType, HaveTypes, AreTyped}
use Rattle.conv_terms.specs.Contraction.{projections}
use Rattle.conv_typing.specs.Conversion.{Converts, ConvertEach, AreConvertible}
use Rattle.conv_typing.proofs.TypesAlone.{has_type_is_type}
use Rattle.conv_typing.proofs.Kept.{converts_typed}
use Rattle.conv_typing.proofs.Weakening.{Fits, traversed_typed, traversed_each, get_left, get_right, longer, one_more, shift_fits, terms_fit}

pub length_of : (g d : List Ty) → length (g ++ d) ≡ length g + length d
length_of g d = grind (arith, length-append)

traversed_projections : (at : Images) (e : Term) (n i count k : ℕ) → each_below (map (traversed at) (projections e n i count)) k ≡ projections (traversed at e k) n i count
traversed_projections at e n i zero k = refl
traversed_projections at e n i (suc count) k = ap₂ ◌∷◌ (traversed_proj at i n e k) (traversed_projections at e n (i + 1) count k)

traversed_get : (at : Images) (ts : List Term) (i k : ℕ) (t : Term) → slice_get ts i ≡ Some t → slice_get (each_below (map (traversed at) ts) k) i ≡ Some (traversed at t k)
traversed_get at [] i k t h = ap (option_map (λ u. traversed at u k)) h
traversed_get at (u ∷ ts) zero k t h = ap (option_map (λ u. traversed at u k)) h
traversed_get at (u ∷ ts) (suc i) k t h = traversed_get at ts i k t h

module _ (terms : ℕ → Term) (g h : List Ty) (fits : Fits (images (length g) (length h) terms) g h) where
  abbrev at : Images
  at = images (length g) (length h) terms

  beta_end : (ctx d : List Ty) (e t : Term) → ctx ≡ g ++ d → traversed at (substituted (length ctx) e t) (length d) ≡ substituted (length (h ++ d)) (traversed at e (length d)) (traversed at t (length d + 1))
  beta_end ctx d e t c =
      ap (λ n. traversed at (substituted n e t) (length d)) (ap length c ∙ length_of g d) ∙ all_of_substituted (length g) (length h) terms (length d) e t
      ∙ ap (λ n. substituted n (traversed at e (length d)) (traversed at t (length d + 1))) (sym (length_of h d))

  eta_end : (ctx d : List Ty) (a : Ty) (f : Term) → ctx ≡ g ++ d → traversed at (term.Lam a (term.App (shifted (length ctx) 1 f) (term.Var (length ctx)))) (length d) ≡ term.Lam a (term.App (shifted (length (h ++ d)) 1 (traversed at f (length d))) (term.Var (length (h ++ d))))
  eta_end ctx d a f c =
      let n : length ctx ≡ length g + length d = ap length c ∙ length_of g d in
      let m : length (h ++ d) ≡ length h + length d = length_of h d in
      let over : length g ≤ length ctx = omega (arith, n) in
      let last : length ctx - length g + length h ≡ length (h ++ d) = omega (arith, n, m) in
      traversed_lam at a _ (length d) ∙ ap (term.Lam a) (traversed_app at _ _ (length d + 1) ∙ ap₂ term.App
      (ap (λ k. traversed at (shifted k 1 f) (length d + 1)) n ∙ all_of_shifted (length g) (length h) terms (length d) 1 f ∙ ap (λ k. shifted k 1 (traversed at f (length d))) (sym m))
      (traversed_var at (length ctx) (length d + 1) ∙ images_other (length g) (length h) terms (length ctx) (length d + 1) over ∙ ap term.Var last))

  whole_end : (types d : List Ty) (e : Term) → traversed at (term.Tup (projections e (length types) 1 (length types))) (length d) ≡ term.Tup (projections (traversed at e (length d)) (length types) 1 (length types))
  whole_end types d e = traversed_tup at _ (length d) ∙ ap term.Tup (traversed_projections at e (length types) 1 (length types) (length d))

  abbrev To : List Ty → Ty → Term → Term → Type 0
  To d a t u = Converts (h ++ d) a (traversed at t (length d)) (traversed at u (length d))

  fit : {ctx : List Ty} {t : Term} {a : Ty} → HasType ctx t a → (d : List Ty) → ctx ≡ g ++ d → HasType (h ++ d) (traversed at t (length d)) a
  fit k d c = traversed_typed at g h fits k d c

  fit_under : (ctx : List Ty) (a : Ty) (t : Term) (b : Ty) → HasType (ctx ++ a ∷ []) t b → (d : List Ty) → ctx ≡ g ++ d → HasType ((h ++ d) ++ a ∷ []) (traversed at t (length d + 1)) b
  fit_under ctx a t b k d c = subst₂ (λ x k. HasType x (traversed at t k) b) (sym (append_assoc h d (a ∷ []))) (one_more d a) (fit k (d ++ a ∷ []) (longer g d ctx a c))

  mutual
    pub traversed_converts : {ctx : List Ty} {a : Ty} {t u : Term} → Converts ctx a t u → (d : List Ty) → ctx ≡ g ++ d → To d a t u
    traversed_converts (Converts.same k) d c = Converts.same (fit k d c)
    traversed_converts (Converts.back k) d c = Converts.back (traversed_converts k d c)
    traversed_converts (Converts.chain k l) d c = Converts.chain (traversed_converts k d c) (traversed_converts l d c)
    traversed_converts {ctx = ctx} (Converts.lam a {b} t u is k) d c =
        subst₂ (Converts (h ++ d) (ty.Arrow a b)) (sym (traversed_lam at a t (length d))) (sym (traversed_lam at a u (length d)))
        (Converts.lam a (traversed at t (length d + 1)) (traversed at u (length d + 1)) is (subst₂ (λ x k. Converts x b (traversed at t k) (traversed at u k)) (sym (append_assoc h d (a ∷ []))) (one_more d a) (traversed_converts k (d ++ a ∷ []) (longer g d ctx a c))))
    traversed_converts {a = b} (Converts.app {a = a} f f' t u k l) d c =
        subst₂ (Converts (h ++ d) b) (sym (traversed_app at f t (length d))) (sym (traversed_app at f' u (length d))) (Converts.app _ _ _ _ (traversed_converts k d c) (traversed_converts l d c))
    traversed_converts (Converts.tup types ts us l k) d c =
        subst₂ (Converts (h ++ d) (ty.Tup types)) (sym (traversed_tup at ts (length d))) (sym (traversed_tup at us (length d))) (Converts.tup types _ _ l (traversed_convert k d c))
    traversed_converts {a = a} (Converts.proj i types t u less l k) d c =
        subst₂ (Converts (h ++ d) a) (sym (traversed_proj at (i + 1) (length types) t (length d))) (sym (traversed_proj at (i + 1) (length types) u (length d))) (Converts.proj i types _ _ less l (traversed_converts k d c))
    traversed_converts {ctx = ctx} (Converts.beta a {b} t e k l) d c =
        subst₂ (Converts (h ++ d) b) (sym (traversed_app at (term.Lam a t) e (length d) ∙ ap (λ f. term.App f (traversed at e (length d))) (traversed_lam at a t (length d)))) (sym (beta_end ctx d e t c))
        (Converts.beta a (traversed at t (length d + 1)) (traversed at e (length d)) (fit_under ctx a t b k d c) (fit l d c))
    traversed_converts {a = a} (Converts.projection i types ts t l ks p q) d c =
        subst (λ x. Converts (h ++ d) a x (traversed at t (length d))) (sym (traversed_proj at (i + 1) (length types) (term.Tup ts) (length d) ∙ ap (term.Proj (i + 1) (length types)) (traversed_tup at ts (length d))))
        (Converts.projection i types (each_below (map (traversed at) ts) (length d)) (traversed at t (length d)) l (traversed_each at g h fits ks d c) p (traversed_get at ts i (length d) t q))
    traversed_converts {ctx = ctx} (Converts.eta a b f k) d c =
        subst (λ x. Converts (h ++ d) (ty.Arrow a b) x (traversed at f (length d))) (sym (eta_end ctx d a f c)) (Converts.eta a b (traversed at f (length d)) (fit k d c))
    traversed_converts (Converts.surjective_pairing types e l k) d c =
        subst (λ x. Converts (h ++ d) (ty.Tup types) x (traversed at e (length d))) (sym (whole_end types d e)) (Converts.surjective_pairing types (traversed at e (length d)) l (fit k d c))

    pub traversed_convert : {ctx : List Ty} {types : List Ty} {ts us : List Term} → ConvertEach ctx types ts us → (d : List Ty) → ctx ≡ g ++ d → ConvertEach (h ++ d) types (each_below (map (traversed at) ts) (length d)) (each_below (map (traversed at) us) (length d))
    traversed_convert ConvertEach.none d c = ConvertEach.none
    traversed_convert (ConvertEach.more k ks) d c = ConvertEach.more (traversed_converts k d c) (traversed_convert ks d c)

-- conversion in a context that is made longer in the middle
pub shifted_converts : (g x d : List Ty) (a : Ty) (t u : Term) → Converts (g ++ d) a t u → Converts ((g ++ x) ++ d) a (shifted (length g) (length x) t) (shifted (length g) (length x) u)
shifted_converts g x d a t u k = subst₂ (Converts ((g ++ x) ++ d) a) (sym (path t)) (sym (path u)) (traversed_converts term.Var g (g ++ x) fits k d refl)
  where
    same_length : length g + length x ≡ length (g ++ x)
    same_length = sym (length_of g x)

    each : (n d : ℕ) → raising (length g) (length x) n d ≡ images (length g) (length (g ++ x)) term.Var n d
    each n d = raising_images (length g) (length x) n d ∙ ap (λ m. images (length g) m term.Var n d) same_length

    fits : Fits (images (length g) (length (g ++ x)) term.Var) g (g ++ x)
    fits d n a l is = subst (λ t. HasType ((g ++ x) ++ d) t a) (each n (length d)) (shift_fits g x d n a l is)

    path : (t : Term) → shifted (length g) (length x) t ≡ traversed (images (length g) (length (g ++ x)) term.Var) t (length d)
    path t = shifted_traversed (length g) (length x) t (length d) ∙ agreeing (raising (length g) (length x)) (images (length g) (length (g ++ x)) term.Var) t (length d) (length d) (λ n j. each n (length d + j))

-- below inner binders too, what becomes of a variable by the one converts to what becomes of it by the other
abbrev pub Alike : Images → Images → List Ty → List Ty → Type 0
Alike at to g h = (inner : List Ty) (n : ℕ) (a : Ty) → slice_get (g ++ inner) n ≡ Some a → IsType a → Converts (h ++ inner) a (at n (length inner)) (to n (length inner))

module _ (at to : Images) (g h : List Ty) (alike : Alike at to g h) where
  mutual
    traversals_convert : {ctx : List Ty} {t : Term} {a : Ty} → HasType ctx t a → (inner : List Ty) → ctx ≡ g ++ inner → Converts (h ++ inner) a (traversed at t (length inner)) (traversed to t (length inner))
    traversals_convert {a = a} (HasType.var n p l) inner is =
        subst₂ (Converts (h ++ inner) a) (sym (traversed_var at n (length inner))) (sym (traversed_var to n (length inner))) (alike inner n a (subst (λ x. slice_get x n ≡ Some a) is p) l)
    traversals_convert {ctx = ctx} (HasType.lam a {b} body l k) inner is =
        subst₂ (Converts (h ++ inner) (ty.Arrow a b)) (sym (traversed_lam at a body (length inner))) (sym (traversed_lam to a body (length inner)))
        (Converts.lam a (traversed at body (length inner + 1)) (traversed to body (length inner + 1)) l (subst₂ (λ x d. Converts x b (traversed at body d) (traversed to body d)) (sym (append_assoc h inner (a ∷ []))) (one_more inner a) (traversals_convert k (inner ++ a ∷ []) (longer g inner ctx a is))))
    traversals_convert {a = b} (HasType.app f e k l) inner is =
        subst₂ (Converts (h ++ inner) b) (sym (traversed_app at f e (length inner))) (sym (traversed_app to f e (length inner))) (Converts.app _ _ _ _ (traversals_convert k inner is) (traversals_convert l inner is))
    traversals_convert (HasType.tup terms types less ks) inner is =
        subst₂ (Converts (h ++ inner) (ty.Tup types)) (sym (traversed_tup at terms (length inner))) (sym (traversed_tup to terms (length inner))) (Converts.tup types _ _ less (traversals_convert_each ks inner is))
    traversals_convert {a = a} (HasType.proj i e types less p k) inner is =
        subst₂ (Converts (h ++ inner) a) (sym (traversed_proj at (i + 1) (length types) e (length inner))) (sym (traversed_proj to (i + 1) (length types) e (length inner))) (Converts.proj i types _ _ less p (traversals_convert k inner is))

    traversals_convert_each : {ctx : List Ty} {terms : List Term} {types : List Ty} → HaveTypes ctx terms types → (inner : List Ty) → ctx ≡ g ++ inner → ConvertEach (h ++ inner) types (each_below (map (traversed at) terms) (length inner)) (each_below (map (traversed to) terms) (length inner))
    traversals_convert_each HaveTypes.none inner is = ConvertEach.none
    traversals_convert_each (HaveTypes.more k ks) inner is = ConvertEach.more (traversals_convert k inner is) (traversals_convert_each ks inner is)

shifted_converts_end : (g x : List Ty) (a : Ty) (t u : Term) → Converts g a t u → Converts (g ++ x) a (shifted (length g) (length x) t) (shifted (length g) (length x) u)
shifted_converts_end g x a t u k =
    subst (λ c. Converts c a (shifted (length g) (length x) t) (shifted (length g) (length x) u)) (append-nil (g ++ x)) (shifted_converts g x [] a t u (subst (λ c. Converts c a t u) (sym (append-nil g)) k))

-- convertible terms for all variables
terms_alike : (terms others : ℕ → Term) (g h : List Ty) → AreConvertible terms others g h → Alike (images (length g) (length h) terms) (images (length g) (length h) others) g h
terms_alike terms others g h each d n a l is = cases (below_or_from n (length g))
  where
    cases : (n < length g) ⊎ (length g ≤ n) → Converts (h ++ d) a (images (length g) (length h) terms n (length d)) (images (length g) (length h) others n (length d))
    cases (inl i) =
        subst₂ (Converts (h ++ d) a) (sym (images_known (length g) (length h) terms n (length d) i)) (sym (images_known (length g) (length h) others n (length d) i))
        (shifted_converts_end h d a (terms n) (others n) (each n a (sym (get_left g d n i) ∙ l) is))
    cases (inr i) =
        let high : length h ≤ n - length g + length h = omega arith in
        let e : n - length g + length h - length h ≡ n - length g = omega arith in
        subst₂ (Converts (h ++ d) a) (sym (images_other (length g) (length h) terms n (length d) i)) (sym (images_other (length g) (length h) others n (length d) i))
        (Converts.same (HasType.var _ (get_right h d _ high ∙ ap (slice_get d) e ∙ sym (get_right g d n i) ∙ l) is))

pub all_converts : (ctx others inner : List Ty) (terms alike : ℕ → Term) (a : Ty) (t u : Term) → AreConvertible terms alike ctx others → Converts (ctx ++ inner) a t u → Converts (others ++ inner) a (substituted_all (length ctx) (length others) terms t (length inner)) (substituted_all (length ctx) (length others) alike u (length inner))
all_converts ctx others inner terms alike a t u each k =
    let typed : AreTyped terms ctx others = λ n b l is. (converts_typed (each n b l is)).0 in
    Converts.chain (traversed_converts terms ctx others (terms_fit terms ctx others typed) k inner refl)
    (traversals_convert (images (length ctx) (length others) terms) (images (length ctx) (length others) alike) ctx others (terms_alike terms alike ctx others each) (converts_typed k).1 inner refl)

-- convertible terms for the last variable: both sides are redexes of functions that convert
pub both_substituted : (g : List Ty) (b : Ty) (e f : Term) (a : Ty) (t u : Term) → Converts g b e f → Converts (g ++ b ∷ []) a t u → Converts g a (substituted (length g) e t) (substituted (length g) f u)
both_substituted g b e f a t u k l =
    let typed = converts_typed k in
    let whole = converts_typed l in
    Converts.chain (Converts.back (Converts.beta b t e whole.0 typed.0)) (Converts.chain (Converts.app _ _ e f (Converts.lam b t u (has_type_is_type typed.0) l) k) (Converts.beta b u f whole.1 typed.1))
