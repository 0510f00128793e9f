-- Typing: which type a term has in a context, the list of the types of its variables by their levels.
-- Every type that a term has is a type: so are those of variables and of abstractions, and no tuple has one component.
use Rattle.std.specs.Prelude.{◌≡◌, ◌≢◌, ℕ, ◌+◌, List, [], ◌∷◌, ◌++◌, length, slice_get, Some}
use Rattle.type_core.specs.declared.ty.Ty.{Ty}
use Rattle.type_core.specs.declared.ty.Ty.TheVariants as ty
use Rattle.type_core.specs.Types.{IsType}
use Rattle.conv_terms.specs.declared.term.Term.{Term}
use Rattle.conv_terms.specs.declared.term.Term.TheVariants as term

mutual
  -- the term has the type in the context; a tuple has any number of components but one
  pub data HasType : List Ty → Term → Ty → Type 0 where
    var : {ctx : List Ty} {a : Ty} (n : ℕ) → slice_get ctx n ≡ Some a → IsType a → HasType ctx (term.Var n) a
    lam : {ctx : List Ty} (a : Ty) {b : Ty} (body : Term) → IsType a → HasType (ctx ++ a ∷ []) body b → HasType ctx (term.Lam a body) (ty.Arrow a b)
    app : {ctx : List Ty} {a b : Ty} (f e : Term) → HasType ctx f (ty.Arrow a b) → HasType ctx e a → HasType ctx (term.App f e) b
    tup : {ctx : List Ty} (terms : List Term) (types : List Ty) → length types ≢ 1 → HaveTypes ctx terms types → HasType ctx (term.Tup terms) (ty.Tup types)
    proj : {ctx : List Ty} {a : Ty} (i : ℕ) (e : Term) (types : List Ty) → length types ≢ 1 → slice_get types i ≡ Some a → HasType ctx e (ty.Tup types) → HasType ctx (term.Proj (i + 1) (length types) e) a

  -- each of the terms has its type in the context
  pub data HaveTypes : List Ty → List Term → List Ty → Type 0 where
    none : {ctx : List Ty} → HaveTypes ctx [] []
    more : {ctx : List Ty} {t : Term} {a : Ty} {terms : List Term} {types : List Ty} → HasType ctx t a → HaveTypes ctx terms types → HaveTypes ctx (t ∷ terms) (a ∷ types)

-- the terms, one for each variable of a context whose type is one, have the types of those variables in another
abbrev pub AreTyped : (ℕ → Term) → List Ty → List Ty → Type 0
AreTyped terms ctx others = (n : ℕ) (a : Ty) → slice_get ctx n ≡ Some a → IsType a → HasType others (terms n) a
