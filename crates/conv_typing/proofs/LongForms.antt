-- A typed term converts to its long form, which projects from no tuple.
use Rattle.std.proofs.Common.{◌≡◌, ◌≢◌, ℕ, ◌+◌, List, [], ◌∷◌, ◌++◌, length, refl, sym, ap, ◌∙◌, subst, subst₂, Some, slice_get, zero, suc}
use Rattle.type_core.specs.declared.ty.Ty.{Ty}
use Rattle.type_core.specs.declared.ty.Ty.TheVariants as ty
use Rattle.conv_terms.specs.declared.term.Term.{Term}
use Rattle.conv_terms.specs.declared.term.Term.TheVariants as term
use Rattle.conv_terms.specs.Substitution.{substituted}
use Rattle.conv_terms.specs.Parts.{IsPart}
use Rattle.conv_terms.specs.LongForm.{IsLongForm, AreLongForms}
use Rattle.conv_terms.proofs.Forms.{some_is, none_not, same_place}
use Rattle.conv_terms.proofs.LongForms.{no_projection}
use Rattle.conv_typing.specs.Typing.{HasType, HaveTypes}
use Rattle.conv_typing.specs.Conversion.{Converts, ConvertEach}
use Rattle.conv_typing.proofs.Types.{one_domain, one_range, one_tuple}
use Rattle.conv_typing.proofs.Inversion.{of_lam, of_app, of_tup, of_proj}
use Rattle.conv_typing.proofs.Weakening.{one_more}
use Rattle.conv_typing.proofs.Kept.{converts_typed}

pub as_many : {ctx : List Ty} {ts : List Term} {types : List Ty} → HaveTypes ctx ts types → length ts ≡ length types
as_many HaveTypes.none = refl
as_many (HaveTypes.more k ks) = ap suc (as_many ks)

-- a function that comes to an abstraction, at an argument
at_abstraction : (n : ℕ) (f e : Term) (a : Ty) (t u h : Term) (ctx : List Ty) (c b : Ty) → n ≡ length ctx → Converts ctx (ty.Arrow b c) f (term.Lam a t) → Converts ctx b e u
    → (HasType ctx (substituted n u t) c → Converts ctx c (substituted n u t) h) → Converts ctx c (term.App f e) h
at_abstraction n f e a t u h ctx c b p kf ke kr =
    let (d, q, is, l) = of_lam ctx a t (ty.Arrow b c) (converts_typed kf).1 in
    let body : HasType (ctx ++ a ∷ []) t c = subst (HasType (ctx ++ a ∷ []) t) (sym (one_range b c a d q)) l in
    let value : HasType ctx u a = subst (HasType ctx u) (one_domain b c a d q) (converts_typed ke).1 in
    let step : Converts ctx c (term.App (term.Lam a t) u) (substituted n u t) = subst (λ m. Converts ctx c (term.App (term.Lam a t) u) (substituted m u t)) (sym p) (Converts.beta a t u body value) in
    Converts.chain (Converts.app f (term.Lam a t) e u kf ke) (Converts.chain step (kr (converts_typed step).1))

-- a projection from what comes to a tuple
at_tuple : (i : ℕ) (e : Term) (ts : List Term) (h : Term) (ctx : List Ty) (c : Ty) (types : List Ty) → slice_get ts i ≡ Some h → length ts ≡ length types → length types ≢ 1 → slice_get types i ≡ Some c
    → Converts ctx (ty.Tup types) e (term.Tup ts) → Converts ctx c (term.Proj (i + 1) (length ts) e) h
at_tuple i e ts h ctx c types m p less l k =
    let (others, q, fewer, ks) = of_tup ctx ts (ty.Tup types) (converts_typed k).1 in
    subst (λ n. Converts ctx c (term.Proj (i + 1) n e) h) (sym p) (Converts.chain (Converts.proj i types e (term.Tup ts) less l k)
    (Converts.projection i types ts h less (subst (HaveTypes ctx ts) (sym (one_tuple types others q)) ks) l m))

mutual
  keeps : {n : ℕ} {t u : Term} → IsLongForm n t u → (ctx : List Ty) (c : Ty) → n ≡ length ctx → HasType ctx t c → Converts ctx c t u
  keeps (IsLongForm.var i) ctx c p k = Converts.same k
  keeps (IsLongForm.lam a t u l) ctx c p k =
      let (b, q, is, m) = of_lam ctx a t c k in
      subst (λ c. Converts ctx c (term.Lam a t) (term.Lam a u)) (sym q) (Converts.lam a t u is (keeps l (ctx ++ a ∷ []) b (ap (λ m. m + 1) p ∙ sym (one_more ctx a)) m))
  keeps (IsLongForm.tup ts us ls) ctx c p k =
      let (types, q, less, ms) = of_tup ctx ts c k in
      subst (λ c. Converts ctx c (term.Tup ts) (term.Tup us)) (sym q) (Converts.tup types ts us less (keep_each ls ctx types p ms))
  keeps {n = n} {u = h} (IsLongForm.beta f e a t u l m r) ctx c p k =
      let (b, kf, ke) = of_app ctx f e c k in
      at_abstraction n f e a t u h ctx c b p (keeps l ctx (ty.Arrow b c) p kf) (keeps m ctx b p ke) (keeps r ctx c p)
  keeps (IsLongForm.app f e g u h l m) ctx c p k =
      let (b, kf, ke) = of_app ctx f e c k in
      Converts.app f g e u (keeps l ctx (ty.Arrow b c) p kf) (keeps m ctx b p ke)
  keeps {u = h} (IsLongForm.projection i e ts l m) ctx c p k =
      let (j, types, at, size, less, q, ke) = of_proj ctx (i + 1) (length ts) e c k in
      at_tuple i e ts h ctx c types m size less (ap (slice_get types) (same_place i j at) ∙ q) (keeps l ctx (ty.Tup types) p ke)
  keeps (IsLongForm.proj i count e u h l) ctx c p k =
      let (j, types, at, size, less, q, ke) = of_proj ctx i count e c k in
      subst₂ (λ i n. Converts ctx c (term.Proj i n e) (term.Proj i n u)) (sym at) (sym size) (Converts.proj j types e u less q (keeps l ctx (ty.Tup types) p ke))

  keep_each : {n : ℕ} {ts us : List Term} → AreLongForms n ts us → (ctx types : List Ty) → n ≡ length ctx → HaveTypes ctx ts types → ConvertEach ctx types ts us
  keep_each AreLongForms.none ctx types p HaveTypes.none = ConvertEach.none
  keep_each (AreLongForms.more l ls) ctx types p (HaveTypes.more {a = a} {types = rest} k ks) = ConvertEach.more (keeps l ctx a p k) (keep_each ls ctx rest p ks)

pub long_form_converts : (ctx : List Ty) (a : Ty) (t u : Term) → HasType ctx t a → IsLongForm (length ctx) t u → Converts ctx a t u
long_form_converts ctx a t u k l = keeps l ctx a refl k

pub long_form_typed : (ctx : List Ty) (a : Ty) (t u : Term) → HasType ctx t a → IsLongForm (length ctx) t u → HasType ctx u a
long_form_typed ctx a t u k l = (converts_typed (long_form_converts ctx a t u k l)).1

-- a part of a typed term is typed
type_at : {ctx : List Ty} {ts : List Term} {types : List Ty} → HaveTypes ctx ts types → (i : ℕ) (t : Term) → slice_get ts i ≡ Some t → (a : Ty) × HasType ctx t a
type_at HaveTypes.none i t p = absurd (none_not t p)
type_at {ctx = ctx} (HaveTypes.more {t = u} {a = a} k ks) zero t p = (a, subst (λ t. HasType ctx t a) (some_is u t p) k)
type_at (HaveTypes.more k ks) (suc i) t p = type_at ks i t p

part_typed : {s t : Term} → IsPart s t → (ctx : List Ty) (a : Ty) → HasType ctx t a → (inner : List Ty) × (b : Ty) × HasType inner s b
part_typed IsPart.whole ctx a k = (ctx, a, k)
part_typed (IsPart.body a t p) ctx c k = let (b, q, is, l) = of_lam ctx a t c k in part_typed p (ctx ++ a ∷ []) b l
part_typed (IsPart.function f e p) ctx c k = let (b, kf, ke) = of_app ctx f e c k in part_typed p ctx (ty.Arrow b c) kf
part_typed (IsPart.argument f e p) ctx c k = let (b, kf, ke) = of_app ctx f e c k in part_typed p ctx b ke
part_typed (IsPart.component ts i t q p) ctx c k =
    let (types, e, less, ks) = of_tup ctx ts c k in
    let (b, l) = type_at ks i t q in part_typed p ctx b l
part_typed (IsPart.projected i n e p) ctx c k =
    let (j, types, at, size, less, q, ke) = of_proj ctx i n e c k in part_typed p ctx (ty.Tup types) ke

-- what is projected from a tuple of a type has as many components as the tuple
pub no_tuple_projected : (ctx : List Ty) (a : Ty) (t u : Term) (i n : ℕ) (ts : List Term) → HasType ctx t a → IsLongForm (length ctx) t u → ¬ (IsPart (term.Proj i n (term.Tup ts)) u)
no_tuple_projected ctx a t u i n ts k l p =
    let (inner, b, m) = part_typed p ctx a (long_form_typed ctx a t u k l) in
    let (j, types, at, size, less, q, whole) = of_proj inner i n (term.Tup ts) b m in
    let (others, r, fewer, ms) = of_tup inner ts (ty.Tup types) whole in
    let as_long : n ≡ length ts = size ∙ ap length (one_tuple types others r) ∙ sym (as_many ms) in
    no_projection (length ctx) t u i ts l (subst (λ n. IsPart (term.Proj i n (term.Tup ts)) u) as_long p)
