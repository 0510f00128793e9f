-- What a typing of a term tells of its parts, and that a term has one type.
use Rattle.std.proofs.Common.{◌≡◌, ◌≢◌, ℕ, ◌+◌, List, [], ◌∷◌, ◌++◌, length, slice_get, Some, refl, sym, ap, ap₂, ◌∙◌, subst}
use Rattle.type_core.specs.declared.ty.Ty.{Ty}
use Rattle.type_core.specs.declared.ty.Ty.TheVariants as ty
use Rattle.type_core.specs.Types.{IsType}
use Rattle.conv_terms.specs.declared.term.Term.{Term, out-Term}
use Rattle.conv_terms.specs.declared.term.Term.TheVariants as term
use Rattle.conv_terms.specs.declared.term.Term.TheOpen.{Term-F, Var, Lam, App, Tup, Proj}
use Rattle.conv_terms.proofs.Forms.{some_is, same_place, out_var, out_lam, out_app, out_tup, out_proj}
use Rattle.conv_typing.specs.Typing.{HasType, HaveTypes}
use Rattle.conv_typing.proofs.Types.{one_range, one_tuple}

-- the premises of the one rule for this form of term
abbrev Premises : List Ty → Term-F Term → Ty → Type 0
Premises ctx (Var n) a = (slice_get ctx n ≡ Some a) × IsType a
Premises ctx (Lam a body) c = (b : Ty) × (c ≡ ty.Arrow a b) × IsType a × HasType (ctx ++ a ∷ []) body b
Premises ctx (App f e) b = (a : Ty) × HasType ctx f (ty.Arrow a b) × HasType ctx e a
Premises ctx (Tup ts) c = (types : List Ty) × (c ≡ ty.Tup types) × (length types ≢ 1) × HaveTypes ctx ts types
Premises ctx (Proj i n e) a = (k : ℕ) × (types : List Ty) × (i ≡ k + 1) × (n ≡ length types) × (length types ≢ 1) × (slice_get types k ≡ Some a) × HasType ctx e (ty.Tup types)

inverted : {ctx : List Ty} {t : Term} {a : Ty} → HasType ctx t a → Premises ctx (out-Term t) a
inverted {ctx = ctx} {a = a} (HasType.var n p is) = subst (λ v. Premises ctx v a) (sym (out_var n)) (p, is)
inverted {ctx = ctx} (HasType.lam a {b} body is k) = subst (λ v. Premises ctx v (ty.Arrow a b)) (sym (out_lam a body)) (b, refl, is, k)
inverted {ctx = ctx} {a = b} (HasType.app {a = a} f e k l) = subst (λ v. Premises ctx v b) (sym (out_app f e)) (a, k, l)
inverted {ctx = ctx} (HasType.tup ts types l ks) = subst (λ v. Premises ctx v (ty.Tup types)) (sym (out_tup ts)) (types, refl, l, ks)
inverted {ctx = ctx} {a = a} (HasType.proj i e types l p k) = subst (λ v. Premises ctx v a) (sym (out_proj (i + 1) (length types) e)) (i, types, refl, refl, l, p, k)

pub of_var : (ctx : List Ty) (n : ℕ) (a : Ty) → HasType ctx (term.Var n) a → (slice_get ctx n ≡ Some a) × IsType a
of_var ctx n a k = subst (λ v. Premises ctx v a) (out_var n) (inverted k)

pub of_lam : (ctx : List Ty) (a : Ty) (body : Term) (c : Ty) → HasType ctx (term.Lam a body) c → (b : Ty) × (c ≡ ty.Arrow a b) × IsType a × HasType (ctx ++ a ∷ []) body b
of_lam ctx a body c k = subst (λ v. Premises ctx v c) (out_lam a body) (inverted k)

pub of_app : (ctx : List Ty) (f e : Term) (b : Ty) → HasType ctx (term.App f e) b → (a : Ty) × HasType ctx f (ty.Arrow a b) × HasType ctx e a
of_app ctx f e b k = subst (λ v. Premises ctx v b) (out_app f e) (inverted k)

pub of_tup : (ctx : List Ty) (ts : List Term) (c : Ty) → HasType ctx (term.Tup ts) c → (types : List Ty) × (c ≡ ty.Tup types) × (length types ≢ 1) × HaveTypes ctx ts types
of_tup ctx ts c k = subst (λ v. Premises ctx v c) (out_tup ts) (inverted k)

pub of_proj : (ctx : List Ty) (i n : ℕ) (e : Term) (a : Ty) → HasType ctx (term.Proj i n e) a → (k : ℕ) × (types : List Ty) × (i ≡ k + 1) × (n ≡ length types) × (length types ≢ 1) × (slice_get types k ≡ Some a) × HasType ctx e (ty.Tup types)
of_proj ctx i n e a k = subst (λ v. Premises ctx v a) (out_proj i n e) (inverted k)

mutual
  pub one_type : {ctx : List Ty} {t : Term} {a : Ty} → HasType ctx t a → (b : Ty) → HasType ctx t b → a ≡ b
  one_type {ctx = ctx} {a = a} (HasType.var n p is) b k = some_is a b (sym p ∙ (of_var ctx n b k).0)
  one_type {ctx = ctx} (HasType.lam a body is k) c l =
      let (b, e, js, m) = of_lam ctx a body c l in
      ap (ty.Arrow a) (one_type k b m) ∙ sym e
  one_type {ctx = ctx} {a = b} (HasType.app {a = a} f e k l) c m =
      let (d, g, h) = of_app ctx f e c m in
      one_range a b d c (one_type k (ty.Arrow d c) g)
  one_type {ctx = ctx} (HasType.tup ts types l ks) c m =
      let (others, e, less, ms) = of_tup ctx ts c m in
      ap ty.Tup (one_types ks others ms) ∙ sym e
  one_type {ctx = ctx} {a = a} (HasType.proj i e types l p k) c m =
      let (j, others, at, n, less, q, h) = of_proj ctx (i + 1) (length types) e c m in
      some_is a c (sym p ∙ ap₂ slice_get (one_tuple types others (one_type k (ty.Tup others) h)) (same_place i j at) ∙ q)

  pub one_types : {ctx : List Ty} {ts : List Term} {types : List Ty} → HaveTypes ctx ts types → (others : List Ty) → HaveTypes ctx ts others → types ≡ others
  one_types HaveTypes.none [] HaveTypes.none = refl
  one_types HaveTypes.none (b ∷ bs) ls = elim ls [ ]
  one_types (HaveTypes.more k ks) [] ls = elim ls [ ]
  one_types (HaveTypes.more k ks) (b ∷ bs) (HaveTypes.more l ls) = ap₂ ◌∷◌ (one_type k b l) (one_types ks bs ls)
