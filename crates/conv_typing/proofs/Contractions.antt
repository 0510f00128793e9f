-- A typed term converts to its contraction.
use Rattle.std.proofs.Common.{◌≡◌, ℕ, ◌+◌, ◌≤◌, List, [], ◌∷◌, ◌++◌, map, length, refl, sym, ap, ◌∙◌, subst, subst₂, arith, zero, suc, append_assoc, append-nil}
use Rattle.type_core.specs.declared.ty.Ty.{Ty}
use Rattle.type_core.specs.declared.ty.Ty.TheVariants as ty
use Rattle.conv_terms.specs.declared.term.Term.{Term}
use Rattle.conv_terms.specs.declared.term.Term.TheVariants as term
use Rattle.conv_terms.specs.Shifting.{shifted}
use Rattle.conv_terms.specs.Contraction.{all_projections, IsContraction, AreContractions}
use Rattle.conv_terms.proofs.Equations.{HoldOf, induct, shifted_var, shifted_lam, shifted_app, shifted_tup, shifted_proj}
use Rattle.conv_terms.proofs.Forms.{some_is}
use Rattle.conv_typing.specs.Typing.{HasType, HaveTypes}
use Rattle.conv_typing.specs.Conversion.{Converts, ConvertEach}
use Rattle.conv_typing.proofs.Inversion.{of_var, of_lam, of_app, of_tup, of_proj, one_types}
use Rattle.conv_typing.proofs.Weakening.{one_more, shifted_variable}
use Rattle.conv_typing.proofs.Kept.{last_type, all_projections_typed, converts_typed, each_typed}

-- what is typed after a shift is typed before, in the shorter context
abbrev Shortens : List Ty → List Ty → Term → Type 0
Shortens g x t = (inner : List Ty) (c : Ty) → HasType ((g ++ x) ++ inner) (shifted (length g) (length x) t) c → HasType (g ++ inner) t c

shortened : (g x : List Ty) (t : Term) → Shortens g x t
shortened g x = induct (Shortens g x)
    (λ n inner c k.
    let (p, is) = of_var ((g ++ x) ++ inner) _ c (subst (λ t. HasType ((g ++ x) ++ inner) t c) (shifted_var (length g) (length x) n) k) in
    HasType.var n (sym (shifted_variable g x inner n) ∙ p) is)
    (λ a t ih inner c k.
    let (b, q, is, l) = of_lam ((g ++ x) ++ inner) a _ c (subst (λ t. HasType ((g ++ x) ++ inner) t c) (shifted_lam (length g) (length x) a t) k) in
    let below = ih (inner ++ a ∷ []) b (subst (λ y. HasType y (shifted (length g) (length x) t) b) (append_assoc (g ++ x) inner (a ∷ [])) l) in
    subst (HasType (g ++ inner) (term.Lam a t)) (sym q) (HasType.lam a t is (subst (λ y. HasType y t b) (sym (append_assoc g inner (a ∷ []))) below)))
    (λ f e ihf ihe inner c k.
    let (b, kf, ke) = of_app ((g ++ x) ++ inner) _ _ c (subst (λ t. HasType ((g ++ x) ++ inner) t c) (shifted_app (length g) (length x) f e) k) in
    HasType.app f e (ihf inner (ty.Arrow b c) kf) (ihe inner b ke))
    (λ ts ihs inner c k.
    let (types, q, less, ks) = of_tup ((g ++ x) ++ inner) _ c (subst (λ t. HasType ((g ++ x) ++ inner) t c) (shifted_tup (length g) (length x) ts) k) in
    subst (HasType (g ++ inner) (term.Tup ts)) (sym q) (HasType.tup ts types less (each ts ihs inner types ks)))
    (λ i n e ih inner c k.
    let (j, types, at, size, less, q, ke) = of_proj ((g ++ x) ++ inner) i n _ c (subst (λ t. HasType ((g ++ x) ++ inner) t c) (shifted_proj (length g) (length x) i n e) k) in
    subst₂ (λ i n. HasType (g ++ inner) (term.Proj i n e) c) (sym at) (sym size) (HasType.proj j e types less q (ih inner (ty.Tup types) ke)))
  where
    each : (ts : List Term) → HoldOf (Shortens g x) ts → (inner types : List Ty) → HaveTypes ((g ++ x) ++ inner) (map (shifted (length g) (length x)) ts) types → HaveTypes (g ++ inner) ts types
    each [] ihs inner types HaveTypes.none = HaveTypes.none
    each (t ∷ ts) ihs inner types (HaveTypes.more {a = a} {types = rest} k ks) = HaveTypes.more (ihs.0 inner a k) (each ts ihs.1 inner rest ks)

without_last : (ctx : List Ty) (a c : Ty) (t : Term) → HasType (ctx ++ a ∷ []) (shifted (length ctx) 1 t) c → HasType ctx t c
without_last ctx a c t k =
    subst (λ g. HasType g t c) (append-nil ctx) (shortened ctx (a ∷ []) t [] c (subst (λ g. HasType g (shifted (length ctx) 1 t) c) (sym (append-nil (ctx ++ a ∷ []))) k))

-- the function of fn (x : a) => f x
function_typed : (ctx : List Ty) (a b : Ty) (f : Term) → HasType (ctx ++ a ∷ []) (term.App (shifted (length ctx) 1 f) (term.Var (length ctx))) b → HasType ctx f (ty.Arrow a b)
function_typed ctx a b f k =
    let (c, kf, ke) = of_app (ctx ++ a ∷ []) _ _ b k in
    let same : a ≡ c = some_is a c (sym (last_type ctx a) ∙ (of_var (ctx ++ a ∷ []) (length ctx) c ke).0) in
    without_last ctx a (ty.Arrow a b) f (subst (λ x. HasType (ctx ++ a ∷ []) (shifted (length ctx) 1 f) (ty.Arrow x b)) (sym same) kf)

-- the term of (#1 e, .., #n e)
tuple_typed : (ctx types : List Ty) (e : Term) (n : ℕ) → 2 ≤ n → HaveTypes ctx (all_projections e n) types → HasType ctx e (ty.Tup types) × (n ≡ length types)
tuple_typed ctx types e zero two ks = let never : ⊥ = omega (arith, two) in absurd never
tuple_typed ctx types e (suc n) two (HaveTypes.more {a = a} {types = rest} k ks) =
    let (j, others, at, size, less, q, ke) = of_proj ctx 1 (suc n) e a k in
    let all : HaveTypes ctx (all_projections e (suc n)) others = subst (λ m. HaveTypes ctx (all_projections e m) others) (sym size) (all_projections_typed ctx e others less ke) in
    let same : others ≡ a ∷ rest = one_types all (a ∷ rest) (HaveTypes.more k ks) in
    (subst (λ ts. HasType ctx e (ty.Tup ts)) same ke, size ∙ ap length same)

mutual
  contracts : {n : ℕ} {t u : Term} → IsContraction n t u → (ctx : List Ty) (c : Ty) → n ≡ length ctx → HasType ctx t c → Converts ctx c t u
  contracts (IsContraction.var i) ctx c p k = Converts.same k
  contracts (IsContraction.lam a t u l lacks) ctx c p k =
      let (b, q, is, m) = of_lam ctx a t c k in
      subst (λ c. Converts ctx c (term.Lam a t) (term.Lam a u)) (sym q) (Converts.lam a t u is (contracts l (ctx ++ a ∷ []) b (ap (λ m. m + 1) p ∙ sym (one_more ctx a)) m))
  contracts {n = n} (IsContraction.eta a t f l) ctx c p k =
      let (b, q, is, m) = of_lam ctx a t c k in
      let below : Converts (ctx ++ a ∷ []) b t (term.App (shifted (length ctx) 1 f) (term.Var (length ctx))) =
      subst (λ n. Converts (ctx ++ a ∷ []) b t (term.App (shifted n 1 f) (term.Var n))) p (contracts l (ctx ++ a ∷ []) b (ap (λ m. m + 1) p ∙ sym (one_more ctx a)) m) in
      subst (λ c. Converts ctx c (term.Lam a t) f) (sym q) (Converts.chain (Converts.lam a t _ is below) (Converts.eta a b f (function_typed ctx a b f (converts_typed below).1)))
  contracts (IsContraction.app f g e u l m) ctx c p k =
      let (b, kf, ke) = of_app ctx f e c k in
      Converts.app f g e u (contracts l ctx (ty.Arrow b c) p kf) (contracts m ctx b p ke)
  contracts (IsContraction.tup ts us ls lacks) ctx c p k =
      let (types, q, less, ms) = of_tup ctx ts c k in
      subst (λ c. Converts ctx c (term.Tup ts) (term.Tup us)) (sym q) (Converts.tup types ts us less (contract_each ls ctx types p ms))
  contracts (IsContraction.surjective_pairing ts e m two ls) ctx c p k =
      let (types, q, less, ms) = of_tup ctx ts c k in
      let each : ConvertEach ctx types ts (all_projections e m) = contract_each ls ctx types p ms in
      let (l, size) = tuple_typed ctx types e m two (each_typed each).1 in
      let pairing : Converts ctx (ty.Tup types) (term.Tup (all_projections e m)) e = subst (λ n. Converts ctx (ty.Tup types) (term.Tup (all_projections e n)) e) (sym size) (Converts.surjective_pairing types e less l) in
      subst (λ c. Converts ctx c (term.Tup ts) e) (sym q) (Converts.chain (Converts.tup types ts _ less each) pairing)
  contracts (IsContraction.proj i count e u l) ctx c p k =
      let (j, types, at, size, less, q, ke) = of_proj ctx i count e c k in
      subst₂ (λ i n. Converts ctx c (term.Proj i n e) (term.Proj i n u)) (sym at) (sym size) (Converts.proj j types e u less q (contracts l ctx (ty.Tup types) p ke))

  contract_each : {n : ℕ} {ts us : List Term} → AreContractions n ts us → (ctx types : List Ty) → n ≡ length ctx → HaveTypes ctx ts types → ConvertEach ctx types ts us
  contract_each AreContractions.none ctx types p HaveTypes.none = ConvertEach.none
  contract_each (AreContractions.more l ls) ctx types p (HaveTypes.more {a = a} {types = rest} k ks) = ConvertEach.more (contracts l ctx a p k) (contract_each ls ctx rest p ks)

pub contraction_converts : (ctx : List Ty) (a : Ty) (t u : Term) → HasType ctx t a → IsContraction (length ctx) t u → Converts ctx a t u
contraction_converts ctx a t u k l = contracts l ctx a refl k

pub contraction_typed : (ctx : List Ty) (a : Ty) (t u : Term) → HasType ctx t a → IsContraction (length ctx) t u → HasType ctx u a
contraction_typed ctx a t u k l = (converts_typed (contraction_converts ctx a t u k l)).1
