-- Lists of terms that have types, or convert, and functions of many arguments.
use Rattle.std.proofs.Common.{◌≡◌, ℕ, ◌-◌, ◌≤◌, ◌&&◌, true, List, [], ◌∷◌, ◌++◌, map, length, take, drop, refl, sym, ap, ap₂, ◌∙◌, subst, subst₂, arith, zero, suc, append_assoc, append-nil, slice_get}
use Rattle.std.specs.List.{All}
use Rattle.type_core.specs.declared.ty.Ty.{Ty}
use Rattle.type_core.specs.Lists.{all_true}
use Rattle.type_core.specs.Types.{IsType, is_type}
use Rattle.type_core.proofs.TypeTests.{all_are_types, arrow_is_type}
use Rattle.conv_terms.specs.declared.term.Term.{Term}
use Rattle.conv_terms.specs.declared.term.Term.TheVariants as term
use Rattle.conv_terms.specs.Shifting.{shifted}
use Rattle.conv_terms.specs.Substitution.{Images, each_below, traversed}
use Rattle.conv_typing.specs.Typing.{HasType, HaveTypes}
use Rattle.conv_typing.specs.Conversion.{Converts, ConvertEach}
use Rattle.conv_typing.proofs.Weakening.{get_right, one_more}
use Rattle.conv_typing.proofs.Congruence.{shifted_converts}
use Rattle.conv_plain.specs.Functions.{arrows, abstractions, applied, variables}

-- each of them is a type
abbrev pub AreTypes : List Ty → Type 0
AreTypes types = all_true (map is_type types) ≡ true

pub all_types : (types : List Ty) → All IsType types → AreTypes types
all_types [] k = refl
all_types (a ∷ types) k = ap₂ ◌&&◌ (k 0 a (omega arith)) (all_types types (λ n d l. k (suc n) d (omega (arith, l))))

pub each_type : (types : List Ty) → AreTypes types → All IsType types
each_type [] k n d l = let no : ⊥ = omega (arith, l) in absurd no
each_type (a ∷ types) k zero d l = (all_are_types a types k).0
each_type (a ∷ types) k (suc n) d l = each_type types (all_are_types a types k).1 n d (omega (arith, l))

pub arrows_are_types : (as' : List Ty) (b : Ty) → AreTypes as' → IsType b → IsType (arrows as' b)
arrows_are_types [] b k l = l
arrows_are_types (a ∷ as') b k l = let both = all_are_types a as' k in arrow_is_type a (arrows as' b) both.0 (arrows_are_types as' b both.1 l)

pub same_each : {ctx types : List Ty} {ts : List Term} → HaveTypes ctx ts types → ConvertEach ctx types ts ts
same_each HaveTypes.none = ConvertEach.none
same_each (HaveTypes.more k ks) = ConvertEach.more (Converts.same k) (same_each ks)

pub chain_each : {ctx types : List Ty} {ts us vs : List Term} → ConvertEach ctx types ts us → ConvertEach ctx types us vs → ConvertEach ctx types ts vs
chain_each ConvertEach.none l = l
chain_each (ConvertEach.more k ks) (ConvertEach.more l ls) = ConvertEach.more (Converts.chain k l) (chain_each ks ls)

pub append_each : {ctx as' bs : List Ty} {ts us ts' us' : List Term} → ConvertEach ctx as' ts us → ConvertEach ctx bs ts' us' → ConvertEach ctx (as' ++ bs) (ts ++ ts') (us ++ us')
append_each ConvertEach.none l = l
append_each (ConvertEach.more k ks) l = ConvertEach.more k (append_each ks l)

pub length_each : {ctx as' : List Ty} {ts us : List Term} → ConvertEach ctx as' ts us → (length ts ≡ length as') × (length us ≡ length as')
length_each ConvertEach.none = (refl, refl)
length_each (ConvertEach.more k ks) = (ap suc (length_each ks).0, ap suc (length_each ks).1)

pub length_typed : {ctx : List Ty} {us : List Term} {as' : List Ty} → HaveTypes ctx us as' → length us ≡ length as'
length_typed HaveTypes.none = refl
length_typed (HaveTypes.more k ks) = ap suc (length_typed ks)

-- the first part of a list, and the rest
pub take_each : {ctx : List Ty} (as' bs : List Ty) {ts us : List Term} → ConvertEach ctx (as' ++ bs) ts us → ConvertEach ctx as' (take (length as') ts) (take (length as') us)
take_each [] bs k = ConvertEach.none
take_each (a ∷ as') bs (ConvertEach.more k ks) = ConvertEach.more k (take_each as' bs ks)

pub drop_each : {ctx : List Ty} (as' bs : List Ty) {ts us : List Term} → ConvertEach ctx (as' ++ bs) ts us → ConvertEach ctx bs (drop (length as') ts) (drop (length as') us)
drop_each [] bs k = k
drop_each (a ∷ as') bs (ConvertEach.more k ks) = drop_each as' bs ks

pub take_drop : (ts : List Term) (n : ℕ) → take n ts ++ drop n ts ≡ ts
take_drop ts zero = refl
take_drop [] (suc n) = refl
take_drop (t ∷ ts) (suc n) = ap (λ x. t ∷ x) (take_drop ts n)

pub take_front : (ts us : List Term) (n : ℕ) → length ts ≡ n → take n (ts ++ us) ≡ ts
take_front ts us n h = ap (λ m. take m (ts ++ us)) (sym h) ∙ go ts
  where
    go : (ts : List Term) → take (length ts) (ts ++ us) ≡ ts
    go [] = refl
    go (t ∷ ts) = ap (λ x. t ∷ x) (go ts)

pub drop_front : (ts us : List Term) (n : ℕ) → length ts ≡ n → drop n (ts ++ us) ≡ us
drop_front ts us n h = ap (λ m. drop m (ts ++ us)) (sym h) ∙ go ts
  where
    go : (ts : List Term) → drop (length ts) (ts ++ us) ≡ us
    go [] = refl
    go (t ∷ ts) = go ts

-- functions of many arguments
pub abstractions_convert : (ctx as' : List Ty) (b : Ty) (t u : Term) → AreTypes as' → Converts (ctx ++ as') b t u → Converts ctx (arrows as' b) (abstractions as' t) (abstractions as' u)
abstractions_convert ctx [] b t u ok k = subst (λ c. Converts c b t u) (append-nil ctx) k
abstractions_convert ctx (a ∷ as') b t u ok k =
    let both = all_are_types a as' ok in
    Converts.lam a (abstractions as' t) (abstractions as' u) both.0 (abstractions_convert (ctx ++ a ∷ []) as' b t u both.1 (subst (λ c. Converts c b t u) (sym (append_assoc ctx (a ∷ []) as')) k))

pub abstractions_convert_each : (ctx as' bs : List Ty) {ts us : List Term} → AreTypes as' → ConvertEach (ctx ++ as') bs ts us → ConvertEach ctx (map (arrows as') bs) (map (abstractions as') ts) (map (abstractions as') us)
abstractions_convert_each ctx as' [] ok ConvertEach.none = ConvertEach.none
abstractions_convert_each ctx as' (b ∷ bs) ok (ConvertEach.more {t = t} {u = u} k ks) = ConvertEach.more (abstractions_convert ctx as' b t u ok k) (abstractions_convert_each ctx as' bs ok ks)

pub applied_convert : (ctx as' : List Ty) (b : Ty) (f g : Term) {ts us : List Term} → Converts ctx (arrows as' b) f g → ConvertEach ctx as' ts us → Converts ctx b (applied f ts) (applied g us)
applied_convert ctx [] b f g k ConvertEach.none = k
applied_convert ctx (a ∷ as') b f g k (ConvertEach.more {t = t} {u = u} l ls) = applied_convert ctx as' b (term.App f t) (term.App g u) (Converts.app f g t u k l) ls

pub variables_typed : (ctx as' : List Ty) → AreTypes as' → HaveTypes (ctx ++ as') (variables (length ctx) (length as')) as'
variables_typed ctx [] ok = HaveTypes.none
variables_typed ctx (a ∷ as') ok =
    let both = all_are_types a as' ok in
    HaveTypes.more
    (HasType.var (length ctx) (get_right ctx (a ∷ as') (length ctx) low ∙ ap (slice_get (a ∷ as')) none) both.0)
    (subst₂ (λ c n. HaveTypes c (variables n (length as')) as') (append_assoc ctx (a ∷ []) as') (one_more ctx a) (variables_typed (ctx ++ a ∷ []) as' both.1))
  where
    low : length ctx ≤ length ctx
    low = omega arith

    none : length ctx - length ctx ≡ 0
    none = omega arith

-- a longer context
pub shifted_converts_end : (g x : List Ty) (a : Ty) (t u : Term) → Converts g a t u → Converts (g ++ x) a (shifted (length g) (length x) t) (shifted (length g) (length x) u)
shifted_converts_end g x a t u k = subst (λ c. Converts c a (shifted (length g) (length x) t) (shifted (length g) (length x) u)) (append-nil (g ++ x)) (shifted_converts g x [] a t u (subst (λ c. Converts c a t u) (sym (append-nil g)) k))

pub each_below_map : (at : Images) (ts : List Term) (k : ℕ) → each_below (map (traversed at) ts) k ≡ map (λ t. traversed at t k) ts
each_below_map at [] k = refl
each_below_map at (t ∷ ts) k = ap (λ x. traversed at t k ∷ x) (each_below_map at ts k)
