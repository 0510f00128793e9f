-- Conversion: which terms are one at a type in a context.
use Rattle.std.specs.Prelude.{◌≡◌, ◌≢◌, ℕ, ◌+◌, List, [], ◌∷◌, ◌++◌, length, slice_get, Some}
use Rattle.type_core.specs.declared.ty.Ty.{Ty}
use Rattle.type_core.specs.declared.ty.Ty.TheVariants as ty
use Rattle.type_core.specs.Types.{IsType}
use Rattle.conv_terms.specs.declared.term.Term.{Term}
use Rattle.conv_terms.specs.declared.term.Term.TheVariants as term
use Rattle.conv_terms.specs.Shifting.{shifted}
use Rattle.conv_terms.specs.Substitution.{substituted}
use Rattle.conv_terms.specs.Contraction.{all_projections}
use Rattle.conv_typing.specs.Typing.{HasType, HaveTypes}

mutual
  -- the terms convert: the least equivalence on the terms of a type that may be applied to every part of a
  -- term, with beta, projection, eta and surjective pairing
  pub data Converts : List Ty → Ty → Term → Term → Type 0 where
    same : {ctx : List Ty} {a : Ty} {t : Term} → HasType ctx t a → Converts ctx a t t
    back : {ctx : List Ty} {a : Ty} {t u : Term} → Converts ctx a t u → Converts ctx a u t
    chain : {ctx : List Ty} {a : Ty} {t u v : Term} → Converts ctx a t u → Converts ctx a u v → Converts ctx a t v
    lam : {ctx : List Ty} (a : Ty) {b : Ty} (t u : Term) → IsType a → Converts (ctx ++ a ∷ []) b t u → Converts ctx (ty.Arrow a b) (term.Lam a t) (term.Lam a u)
    app : {ctx : List Ty} {a b : Ty} (f g t u : Term) → Converts ctx (ty.Arrow a b) f g → Converts ctx a t u → Converts ctx b (term.App f t) (term.App g u)
    tup : {ctx : List Ty} (types : List Ty) (ts us : List Term) → length types ≢ 1 → ConvertEach ctx types ts us → Converts ctx (ty.Tup types) (term.Tup ts) (term.Tup us)
    proj : {ctx : List Ty} {a : Ty} (i : ℕ) (types : List Ty) (t u : Term) → length types ≢ 1 → slice_get types i ≡ Some a → Converts ctx (ty.Tup types) t u → Converts ctx a (term.Proj (i + 1) (length types) t) (term.Proj (i + 1) (length types) u)
    -- (fn (x : a) => t) e = t with e for x
    beta : {ctx : List Ty} (a : Ty) {b : Ty} (t e : Term) → HasType (ctx ++ a ∷ []) t b → HasType ctx e a → Converts ctx b (term.App (term.Lam a t) e) (substituted (length ctx) e t)
    -- #i (t1, .., tn) = ti
    projection : {ctx : List Ty} {a : Ty} (i : ℕ) (types : List Ty) (ts : List Term) (t : Term) → length types ≢ 1 → HaveTypes ctx ts types → slice_get types i ≡ Some a → slice_get ts i ≡ Some t → Converts ctx a (term.Proj (i + 1) (length types) (term.Tup ts)) t
    -- fn (x : a) => f x = f
    eta : {ctx : List Ty} (a b : Ty) (f : Term) → HasType ctx f (ty.Arrow a b) → Converts ctx (ty.Arrow a b) (term.Lam a (term.App (shifted (length ctx) 1 f) (term.Var (length ctx)))) f
    -- (#1 e, .., #n e) = e
    surjective_pairing : {ctx : List Ty} (types : List Ty) (e : Term) → length types ≢ 1 → HasType ctx e (ty.Tup types) → Converts ctx (ty.Tup types) (term.Tup (all_projections e (length types))) e

  -- the terms convert, one by one
  pub data ConvertEach : List Ty → List Ty → List Term → List Term → Type 0 where
    none : {ctx : List Ty} → ConvertEach ctx [] [] []
    more : {ctx : List Ty} {a : Ty} {t u : Term} {types : List Ty} {ts us : List Term} → Converts ctx a t u → ConvertEach ctx types ts us → ConvertEach ctx (a ∷ types) (t ∷ ts) (u ∷ us)

-- the terms convert, two for each variable of a context whose type is one, at the types of those variables in another
abbrev pub AreConvertible : (ℕ → Term) → (ℕ → Term) → List Ty → List Ty → Type 0
AreConvertible terms alike ctx others = (n : ℕ) (a : Ty) → slice_get ctx n ≡ Some a → IsType a → Converts others a (terms n) (alike n)
