-- Convertible terms have the type at which they convert.
use Rattle.std.proofs.Common.{◌≡◌, ◌≢◌, ℕ, ◌+◌, ◌-◌, ◌≤◌, List, [], ◌∷◌, ◌++◌, length, slice_get, Some, refl, sym, ap, ◌∙◌, subst, subst₂, arith, zero, suc, append_assoc}
use Rattle.type_core.specs.declared.ty.Ty.{Ty}
use Rattle.type_core.specs.declared.ty.Ty.TheVariants as ty
use Rattle.conv_terms.specs.declared.term.Term.{Term}
use Rattle.conv_terms.specs.declared.term.Term.TheVariants as term
use Rattle.conv_terms.specs.Shifting.{shifted}
use Rattle.conv_typing.specs.Typing.{HasType, HaveTypes}
use Rattle.conv_terms.specs.Contraction.{projections}
use Rattle.conv_typing.specs.Conversion.{Converts, ConvertEach}
use Rattle.conv_terms.proofs.Forms.{some_is, none_not}
use Rattle.conv_typing.proofs.TypesAlone.{has_type_is_type, argument_is_type}
use Rattle.conv_typing.proofs.Weakening.{get_right, shifted_typed_end, substituted_typed, one_more}

-- what converts has the type
pub at_place : {ctx : List Ty} {ts : List Term} {types : List Ty} → HaveTypes ctx ts types → (i : ℕ) (a : Ty) (t : Term) → slice_get types i ≡ Some a → slice_get ts i ≡ Some t → HasType ctx t a
at_place HaveTypes.none i a t p q = absurd (none_not a p)
at_place {ctx = ctx} (HaveTypes.more {t = u} {a = b} k ks) zero a t p q = subst₂ (HasType ctx) (some_is u t q) (some_is b a p) k
at_place (HaveTypes.more k ks) (suc i) a t p q = at_place ks i a t p q

projections_typed : (ctx : List Ty) (e : Term) (types : List Ty) → length types ≢ 1 → HasType ctx e (ty.Tup types) → (front rest : List Ty) → types ≡ front ++ rest → HaveTypes ctx (projections e (length types) (length front + 1) (length rest)) rest
projections_typed ctx e types less k front [] h = HaveTypes.none
projections_typed ctx e types less k front (a ∷ rest) h = HaveTypes.more
    (HasType.proj (length front) e types less (ap (λ x. slice_get x (length front)) h ∙ get_right front (a ∷ rest) (length front) low ∙ ap (slice_get (a ∷ rest)) none) k)
    (subst (λ i. HaveTypes ctx (projections e (length types) (i + 1) (length rest)) rest) (one_more front a) (projections_typed ctx e types less k (front ++ a ∷ []) rest (h ∙ sym (append_assoc front (a ∷ []) rest))))
  where
    low : length front ≤ length front
    low = omega arith

    none : length front - length front ≡ 0
    none = omega arith

pub last_type : (ctx : List Ty) (a : Ty) → slice_get (ctx ++ a ∷ []) (length ctx) ≡ Some a
last_type ctx a =
    let low : length ctx ≤ length ctx = omega arith in
    let none : length ctx - length ctx ≡ 0 = omega arith in
    get_right ctx (a ∷ []) (length ctx) low ∙ ap (slice_get (a ∷ [])) none

pub all_projections_typed : (ctx : List Ty) (e : Term) (types : List Ty) → length types ≢ 1 → HasType ctx e (ty.Tup types) → HaveTypes ctx (projections e (length types) 1 (length types)) types
all_projections_typed ctx e types less k =
    let one : 0 + 1 ≡ 1 = omega arith in
    subst (λ i. HaveTypes ctx (projections e (length types) i (length types)) types) one (projections_typed ctx e types less k [] types refl)

pub expanded_typed : (ctx : List Ty) (a b : Ty) (f : Term) → HasType ctx f (ty.Arrow a b) → HasType ctx (term.Lam a (term.App (shifted (length ctx) 1 f) (term.Var (length ctx)))) (ty.Arrow a b)
expanded_typed ctx a b f k = HasType.lam a _ (argument_is_type a b k) (HasType.app _ _ (shifted_typed_end ctx (a ∷ []) f (ty.Arrow a b) k) (HasType.var (length ctx) (last_type ctx a) (argument_is_type a b k)))

mutual
  pub converts_typed : {ctx : List Ty} {a : Ty} {t u : Term} → Converts ctx a t u → HasType ctx t a × HasType ctx u a
  converts_typed (Converts.same k) = (k, k)
  converts_typed (Converts.back k) = ((converts_typed k).1, (converts_typed k).0)
  converts_typed (Converts.chain k l) = ((converts_typed k).0, (converts_typed l).1)
  converts_typed (Converts.lam a t u is k) = (HasType.lam a t is (converts_typed k).0, HasType.lam a u is (converts_typed k).1)
  converts_typed (Converts.app f g t u k l) = (HasType.app f t (converts_typed k).0 (converts_typed l).0, HasType.app g u (converts_typed k).1 (converts_typed l).1)
  converts_typed (Converts.tup types ts us l ks) = (HasType.tup ts types l (each_typed ks).0, HasType.tup us types l (each_typed ks).1)
  converts_typed (Converts.proj i types t u less l k) = (HasType.proj i t types less l (converts_typed k).0, HasType.proj i u types less l (converts_typed k).1)
  converts_typed {ctx = ctx} (Converts.beta a {b} t e k l) = (HasType.app (term.Lam a t) e (HasType.lam a t (has_type_is_type l) k) l, substituted_typed ctx a e t b l k)
  converts_typed {a = a} (Converts.projection i types ts t l ks p q) = (HasType.proj i (term.Tup ts) types l p (HasType.tup ts types l ks), at_place ks i a t p q)
  converts_typed {ctx = ctx} (Converts.eta a b f k) = (expanded_typed ctx a b f k, k)
  converts_typed {ctx = ctx} (Converts.surjective_pairing types e l k) = (HasType.tup _ types l (all_projections_typed ctx e types l k), k)

  pub each_typed : {ctx : List Ty} {types : List Ty} {ts us : List Term} → ConvertEach ctx types ts us → HaveTypes ctx ts types × HaveTypes ctx us types
  each_typed ConvertEach.none = (HaveTypes.none, HaveTypes.none)
  each_typed (ConvertEach.more k ks) = (HaveTypes.more (converts_typed k).0 (each_typed ks).0, HaveTypes.more (converts_typed k).1 (each_typed ks).1)
