-- Functions of many arguments, applied.
use Rattle.std.proofs.Common.{◌≡◌, ℕ, ◌+◌, ◌-◌, ◌≤◌, ◌<◌, List, [], ◌∷◌, ◌++◌, map, length, refl, sym, ap, ap₂, ◌∙◌, subst, subst₂, arith, zero, suc, append_assoc, append-nil}
use Rattle.type_core.specs.declared.ty.Ty.{Ty}
use Rattle.type_core.specs.declared.ty.Ty.TheVariants as ty
use Rattle.type_core.specs.Types.{IsType}
use Rattle.type_core.proofs.TypeTests.{all_are_types}
use Rattle.conv_terms.specs.declared.term.Term.{Term}
use Rattle.conv_terms.specs.declared.term.Term.TheVariants as term
use Rattle.conv_terms.specs.Shifting.{shifted}
use Rattle.conv_terms.specs.Substitution.{image, images, only, substituted, traversed}
use Rattle.conv_terms.proofs.Equations.{shifted_var, shifted_app, traversed_var, traversed_app}
use Rattle.conv_terms.proofs.Moving.{image_same, image_high, raised_low, shifted_by_none, shifted_twice, substituted_one, substituted_shifted}
use Rattle.conv_typing.specs.Typing.{HasType, HaveTypes}
use Rattle.conv_typing.specs.Conversion.{Converts, ConvertEach}
use Rattle.conv_typing.proofs.Weakening.{all_typed, one_more, only_typed, shifted_typed_end}
use Rattle.conv_typing.proofs.Kept.{each_typed, last_type}
use Rattle.conv_typing.proofs.Congruence.{length_of}
use Rattle.conv_plain.specs.Functions.{arrows, abstractions, applied, variables}
use Rattle.conv_plain.specs.SplitJoin.{applied_each, join, split}
use Rattle.conv_plain.proofs.Equations.{opened, split_arrow, join_arrow}
use Rattle.conv_plain.proofs.Lists.{AreTypes, same_each, length_typed, applied_convert, variables_typed}
use Rattle.conv_plain.proofs.Formed.{Formed, coordinates_typed}
use Rattle.conv_plain.proofs.Congruent.{types, split_converts, join_converts, opened_convert, body_typed}
use Rattle.conv_plain.proofs.Natural.{traversed_abstractions, traversed_applied, split_substituted, join_substituted}

-- the terms for the variables from the n-th on, substituted one after another
abbrev pub after : ℕ → List Term → Term → Term
after n [] t = t
after n (u ∷ us) t = after n us (traversed (image n u) t (length us))

image_typed : (ctx : List Ty) (a : Ty) (as' : List Ty) (b : Ty) (t u : Term) → HasType ctx u a → HasType (ctx ++ (a ∷ as')) t b → HasType (ctx ++ as') (traversed (image (length ctx) u) t (length as')) b
image_typed ctx a as' b t u k l =
    let all = all_typed (ctx ++ a ∷ []) ctx as' (only (length ctx) u) t b (only_typed ctx a u k) (subst (λ c. HasType c t b) (sym (append_assoc ctx (a ∷ []) as')) l) in
    subst (λ x. HasType (ctx ++ as') x b) (ap (λ n. traversed (images n (length ctx) (only (length ctx) u)) t (length as')) (one_more ctx a) ∙ sym (substituted_one (length ctx) (length as') u t)) all

pub map_id : (ts : List Term) → map (λ t. t) ts ≡ ts
map_id [] = refl
map_id (t ∷ ts) = ap (λ x. t ∷ x) (map_id ts)

pub map_map : (f g : Term → Term) (ts : List Term) → map (λ t. f (g t)) ts ≡ map f (map g ts)
map_map f g [] = refl
map_map f g (t ∷ ts) = ap (λ x. f (g t) ∷ x) (map_map f g ts)

abstractions_typed : (ctx as' : List Ty) (b : Ty) (t : Term) → AreTypes as' → HasType (ctx ++ as') t b → HasType ctx (abstractions as' t) (arrows as' b)
abstractions_typed ctx [] b t ok k = subst (λ c. HasType c t b) (append-nil ctx) k
abstractions_typed ctx (a ∷ as') b t ok k =
    let both = all_are_types a as' ok in
    HasType.lam a (abstractions as' t) both.0 (abstractions_typed (ctx ++ a ∷ []) as' b t both.1 (subst (λ c. HasType c t b) (sym (append_assoc ctx (a ∷ []) as')) k))

-- the function of many arguments, applied
pub many_beta : (ctx as' : List Ty) (b : Ty) (t : Term) (us : List Term) → AreTypes as' → HasType (ctx ++ as') t b → HaveTypes ctx us as' → Converts ctx b (applied (abstractions as' t) us) (after (length ctx) us t)
many_beta ctx [] b t [] ok k HaveTypes.none = Converts.same (subst (λ c. HasType c t b) (append-nil ctx) k)
many_beta ctx [] b t (u ∷ us) ok k x = elim x [ ]
many_beta ctx (a ∷ as') b t [] ok k x = elim x [ ]
many_beta ctx (a ∷ as') b t (u ∷ us) ok k (HaveTypes.more l ls) = Converts.chain
    (applied_convert ctx as' b (term.App (term.Lam a (abstractions as' t)) u) (abstractions as' (traversed (image (length ctx) u) t (length us))) first (same_each ls))
    (many_beta ctx as' b (traversed (image (length ctx) u) t (length us)) us (all_are_types a as' ok).1 (subst (λ n. HasType (ctx ++ as') (traversed (image (length ctx) u) t n) b) (sym (length_typed ls)) (image_typed ctx a as' b t u l k)) ls)
  where
    zero_left : 0 + length as' ≡ length as'
    zero_left = omega arith

    path : substituted (length ctx) u (abstractions as' t) ≡ abstractions as' (traversed (image (length ctx) u) t (length us))
    path = traversed_abstractions (image (length ctx) u) as' t 0 ∙ ap (λ n. abstractions as' (traversed (image (length ctx) u) t n)) (zero_left ∙ sym (length_typed ls))

    first : Converts ctx (arrows as' b) (term.App (term.Lam a (abstractions as' t)) u) (abstractions as' (traversed (image (length ctx) u) t (length us)))
    first = subst (Converts ctx (arrows as' b) (term.App (term.Lam a (abstractions as' t)) u)) path
        (Converts.beta a (abstractions as' t) u (abstractions_typed (ctx ++ a ∷ []) as' b t (all_are_types a as' ok).1 (subst (λ c. HasType c t b) (sym (append_assoc ctx (a ∷ []) as')) k)) l)

pub after_app : (n : ℕ) (us : List Term) (f e : Term) → after n us (term.App f e) ≡ term.App (after n us f) (after n us e)
after_app n [] f e = refl
after_app n (u ∷ us) f e = ap (after n us) (traversed_app (image n u) f e (length us)) ∙ after_app n us _ _

pub after_shifted : (n : ℕ) (us : List Term) (e : Term) → after n us (shifted n (length us) e) ≡ e
after_shifted n [] e = shifted_by_none e n
after_shifted n (u ∷ us) e =
    let low : n ≤ n = omega arith in
    let high : n ≤ n + length us = omega arith in
    let p : suc (length us) ≡ length us + 1 = omega arith in
    ap (λ m. after n us (traversed (image n u) (shifted n m e) (length us))) p ∙ ap (after n us) (substituted_shifted n (length us) u n (length us) e low high) ∙ after_shifted n us e

pub after_split : {t : Ty} → Formed t → (n : ℕ) (us : List Term) (e : Term) → map (after n us) (split t (n + length us) e) ≡ split t n (after n us e)
after_split {t = t} f n [] e = let p : n + 0 ≡ n = omega arith in map_id (split t (n + 0) e) ∙ ap (λ m. split t m e) p
after_split {t = t} f n (u ∷ us) e =
    let p : n + suc (length us) ≡ n + 1 + length us = omega arith in
    map_map (after n us) (λ x. traversed (image n u) x (length us)) (split t (n + suc (length us)) e)
    ∙ ap (map (after n us)) (ap (λ m. map (λ x. traversed (image n u) x (length us)) (split t m e)) p ∙ split_substituted f n u (length us) e)
    ∙ after_split f n us (traversed (image n u) e (length us))

after_join : {t : Ty} → Formed t → (n : ℕ) (us : List Term) (es : List Term) → after n us (join t (n + length us) es) ≡ join t n (map (after n us) es)
after_join {t = t} f n [] es = let p : n + 0 ≡ n = omega arith in ap₂ (join t) p (sym (map_id es))
after_join {t = t} f n (u ∷ us) es =
    let p : n + suc (length us) ≡ n + 1 + length us = omega arith in
    ap (after n us) (ap (λ m. traversed (image n u) (join t m es) (length us)) p ∙ join_substituted f n u (length us) es)
    ∙ after_join f n us (map (λ x. traversed (image n u) x (length us)) es)
    ∙ ap (join t n) (sym (map_map (after n us) (λ x. traversed (image n u) x (length us)) es))

image_variables : (n : ℕ) (u : Term) (d i count : ℕ) → map (λ x. traversed (image n u) x d) (variables (n + 1 + i) count) ≡ variables (n + i) count
image_variables n u d i zero = refl
image_variables n u d i (suc count) =
    let above : n < n + 1 + i = omega arith in
    let less : n + 1 + i - 1 ≡ n + i = omega arith in
    let p : n + 1 + i + 1 ≡ n + 1 + (i + 1) = omega arith in
    let q : n + (i + 1) ≡ n + i + 1 = omega arith in
    ap₂ ◌∷◌ (traversed_var (image n u) (n + 1 + i) d ∙ image_high n u (n + 1 + i) d above ∙ ap term.Var less)
    (ap (λ m. map (λ x. traversed (image n u) x d) (variables m count)) p ∙ image_variables n u d (i + 1) count ∙ ap (λ m. variables m count) q)

pub after_variables : (n : ℕ) (us : List Term) → map (after n us) (variables n (length us)) ≡ us
after_variables n [] = refl
after_variables n (u ∷ us) =
    let p : n + 1 ≡ n + 1 + 0 = omega arith in
    let q : n + 0 ≡ n = omega arith in
    ap₂ ◌∷◌ (ap (after n us) (traversed_var (image n u) n (length us) ∙ image_same n u (length us)) ∙ after_shifted n us u)
    (map_map (after n us) (λ x. traversed (image n u) x (length us)) (variables (n + 1) (length us))
    ∙ ap (map (after n us)) (ap (λ m. map (λ x. traversed (image n u) x (length us)) (variables m (length us))) p ∙ image_variables n u (length us) 0 (length us) ∙ ap (λ m. variables m (length us)) q)
    ∙ after_variables n us)

-- what a function's coordinates give at the argument's coordinates
pub after_opened : (a : Ty) → Formed a → (n : ℕ) (us : List Term) (e : Term) → length us ≡ length (types a) → after n us (opened a n e) ≡ term.App e (join a n us)
after_opened a fa n us e h =
    ap (λ m. after n us (term.App (shifted n m e) (join a (n + m) (variables n m)))) (sym h)
    ∙ after_app n us _ _ ∙ ap₂ term.App (after_shifted n us e) (after_join fa n us (variables n (length us)) ∙ ap (join a n) (after_variables n us))

many_beta_each : (ctx as' bs : List Ty) {ts : List Term} (us : List Term) → AreTypes as' → HaveTypes (ctx ++ as') ts bs → HaveTypes ctx us as' → ConvertEach ctx bs (map (λ f. applied f us) (map (abstractions as') ts)) (map (after (length ctx) us) ts)
many_beta_each ctx as' [] us ok HaveTypes.none l = ConvertEach.none
many_beta_each ctx as' (b ∷ bs) us ok (HaveTypes.more {t = t} k ks) l = ConvertEach.more (many_beta ctx as' b t us ok k l) (many_beta_each ctx as' bs us ok ks l)

pub arrow_applied : (a b : Ty) → Formed a → Formed b → (ctx : List Ty) (e : Term) (us : List Term) → HasType ctx e (ty.Arrow a b) → HaveTypes ctx us (types a) → ConvertEach ctx (types b) (map (λ f. applied f us) (split (ty.Arrow a b) (length ctx) e)) (split b (length ctx) (term.App e (join a (length ctx) us)))
arrow_applied a b fa fb ctx e us k l =
    subst₂ (ConvertEach ctx (types b)) left right
    (many_beta_each ctx (types a) (types b) us (coordinates_typed fa)
    (each_typed (split_converts fb (ctx ++ types a) (opened a (length ctx) e) (opened a (length ctx) e)
    (opened_convert ctx a b e e (Converts.same k) (join_converts fa (ctx ++ types a) _ _ (same_each (variables_typed ctx (types a) (coordinates_typed fa))))))).0 l)
  where
    left : map (λ f. applied f us) (map (abstractions (types a)) (split b (length (ctx ++ types a)) (opened a (length ctx) e))) ≡ map (λ f. applied f us) (split (ty.Arrow a b) (length ctx) e)
    left = ap (map (λ f. applied f us)) (ap (λ n. map (abstractions (types a)) (split b n (opened a (length ctx) e))) (length_of ctx (types a)) ∙ sym (split_arrow a b (length ctx) e))

    right : map (after (length ctx) us) (split b (length (ctx ++ types a)) (opened a (length ctx) e)) ≡ split b (length ctx) (term.App e (join a (length ctx) us))
    right =
        ap (λ n. map (after (length ctx) us) (split b n (opened a (length ctx) e))) (length_of ctx (types a) ∙ ap (λ m. length ctx + m) (sym (length_typed l)))
        ∙ after_split fb (length ctx) us (opened a (length ctx) e) ∙ ap (split b (length ctx)) (after_opened a fa (length ctx) us e (length_typed l))

-- what a function that is joined gives at an argument
closed_substituted : (a : Ty) → Formed a → (n : ℕ) (u : Term) (es : List Term) → map (λ x. traversed (image n u) x 0) (applied_each n (split a (n + 1) (term.Var n)) es) ≡ map (λ e. applied e (split a n u)) es
closed_substituted a fa n u [] = refl
closed_substituted a fa n u (e ∷ es) =
    let low : n ≤ n = omega arith in
    let high : n ≤ n + 0 = omega arith in
    let p : n + 1 ≡ n + 1 + 0 = omega arith in
    let q : n + 0 ≡ n = omega arith in
    let one : 1 ≡ 0 + 1 = omega arith in
    ap₂ ◌∷◌
    (traversed_applied (image n u) (shifted n 1 e) (split a (n + 1) (term.Var n)) 0
    ∙ ap₂ applied (ap (λ j. traversed (image n u) (shifted n j e) 0) one ∙ substituted_shifted n 0 u n 0 e low high ∙ shifted_by_none e n)
    (ap (λ m. map (λ x. traversed (image n u) x 0) (split a m (term.Var n))) p ∙ split_substituted fa n u 0 (term.Var n)
    ∙ ap₂ (split a) q (traversed_var (image n u) n 0 ∙ image_same n u 0 ∙ shifted_by_none u n)))
    (closed_substituted a fa n u es)

pub joined_applied : (a b : Ty) → Formed a → Formed b → (ctx : List Ty) (es : List Term) (u : Term) → HaveTypes ctx es (types (ty.Arrow a b)) → HasType ctx u a → Converts ctx b (term.App (join (ty.Arrow a b) (length ctx) es) u) (join b (length ctx) (map (λ e. applied e (split a (length ctx) u)) es))
joined_applied a b fa fb ctx es u k l =
    subst₂ (Converts ctx b) (ap (λ f. term.App f u) (sym (join_arrow a b (length ctx) es))) right
    (Converts.beta a (join b (length ctx + 1) (applied_each (length ctx) (split a (length ctx + 1) (term.Var (length ctx))) es)) u (body_typed a b fa fb ctx es k) l)
  where
    right : substituted (length ctx) u (join b (length ctx + 1) (applied_each (length ctx) (split a (length ctx + 1) (term.Var (length ctx))) es)) ≡ join b (length ctx) (map (λ e. applied e (split a (length ctx) u)) es)
    right =
        let p : length ctx + 1 ≡ length ctx + 1 + 0 = omega arith in
        let q : length ctx + 0 ≡ length ctx = omega arith in
        ap (λ m. traversed (image (length ctx) u) (join b m (applied_each (length ctx) (split a (length ctx + 1) (term.Var (length ctx))) es)) 0) p ∙ join_substituted fb (length ctx) u 0 _ ∙ ap₂ (join b) q (closed_substituted a fa (length ctx) u es)

-- a function of many arguments that applies a term to them
pub many_eta : (ctx as' : List Ty) (b : Ty) (e : Term) → AreTypes as' → HasType ctx e (arrows as' b) → Converts ctx (arrows as' b) (abstractions as' (applied (shifted (length ctx) (length as') e) (variables (length ctx) (length as')))) e
many_eta ctx [] b e ok k = subst (λ t. Converts ctx b t e) (sym (shifted_by_none e (length ctx))) (Converts.same k)
many_eta ctx (a ∷ as') b e ok k = Converts.chain
    (Converts.lam a _ inner both.0 (subst (λ t. Converts (ctx ++ a ∷ []) (arrows as' b) (abstractions as' t) inner) path
    (many_eta (ctx ++ a ∷ []) as' b inner both.1 (HasType.app (shifted (length ctx) 1 e) (term.Var (length ctx)) (shifted_typed_end ctx (a ∷ []) e (ty.Arrow a (arrows as' b)) k) (HasType.var (length ctx) (last_type ctx a) both.0)))))
    (Converts.eta a (arrows as' b) e k)
  where
    both : IsType a × AreTypes as'
    both = all_are_types a as' ok

    n : ℕ
    n = length ctx

    inner : Term
    inner = term.App (shifted n 1 e) (term.Var n)

    path : applied (shifted (length (ctx ++ a ∷ [])) (length as') inner) (variables (length (ctx ++ a ∷ [])) (length as')) ≡ applied (term.App (shifted n (suc (length as')) e) (term.Var n)) (variables (n + 1) (length as'))
    path =
        let low : n ≤ n + 1 = omega arith in
        let high : n + 1 ≤ n + 1 = omega arith in
        let below : n < n + 1 = omega arith in
        let sum : 1 + length as' ≡ suc (length as') = omega arith in
        ap (λ m. applied (shifted m (length as') inner) (variables m (length as'))) (one_more ctx a)
        ∙ ap (λ f. applied f (variables (n + 1) (length as'))) (shifted_app (n + 1) (length as') (shifted n 1 e) (term.Var n)
        ∙ ap₂ term.App (shifted_twice n 1 (n + 1) (length as') e low high ∙ ap (λ j. shifted n j e) sum) (shifted_var (n + 1) (length as') n ∙ ap term.Var (raised_low (n + 1) (length as') n below)))
