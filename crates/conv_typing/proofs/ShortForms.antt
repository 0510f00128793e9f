-- What the long form of a typed term contracts to is short normal.
use Rattle.std.proofs.Common.{◌≡◌, ◌+◌, ◌&&◌, not, true, List, length, sym, ap, ◌∙◌, subst, true≢false}
use Rattle.type_core.specs.declared.ty.Ty.{Ty}
use Rattle.type_core.specs.declared.ty.Ty.TheVariants as ty
use Rattle.conv_terms.specs.declared.term.Term.{Term}
use Rattle.conv_terms.specs.declared.term.Term.TheVariants as term
use Rattle.conv_terms.specs.LongForm.{is_abstraction, is_tuple_of, IsLongForm}
use Rattle.conv_terms.specs.Contraction.{IsContraction}
use Rattle.conv_terms.specs.ShortNormal.{IsShortNormal}
use Rattle.conv_terms.proofs.Forms.{lam_is, tup_is}
use Rattle.conv_terms.proofs.RedexFree.{is_redex_free, are_redex_free, free_lam, free_app, free_tup, free_proj, left_true, right_true, not_true}
use Rattle.conv_terms.proofs.LongForms.{long_form_free}
use Rattle.conv_terms.proofs.Shortening.{IsNormal, IsNeutral, AreNormal, is_neutral, normal_contraction_short}
use Rattle.conv_typing.specs.Typing.{HasType, HaveTypes}
use Rattle.conv_typing.proofs.Types.{one_tuple, no_function}
use Rattle.conv_typing.proofs.Inversion.{of_lam, of_tup}
use Rattle.conv_typing.proofs.LongForms.{as_many, long_form_typed}

-- a term of a function type is no tuple, and one of a tuple type is no abstraction
no_tuple : (ctx : List Ty) (f : Term) (a b : Ty) → HasType ctx f (ty.Arrow a b) → (ts : List Term) → ¬ (f ≡ term.Tup ts)
no_tuple ctx f a b k ts is =
    let (types, e, less, ks) = of_tup ctx ts (ty.Arrow a b) (subst (λ f. HasType ctx f (ty.Arrow a b)) is k) in
    no_function a b types e

no_abstraction : (ctx : List Ty) (e : Term) (types : List Ty) → HasType ctx e (ty.Tup types) → (a : Ty) (u : Term) → ¬ (e ≡ term.Lam a u)
no_abstraction ctx e types k a u is =
    let (b, p, l, body) = of_lam ctx a u (ty.Tup types) (subst (λ e. HasType ctx e (ty.Tup types)) is k) in
    no_function a b types (sym p)

-- a function that is no redex is no abstraction, and what is projected from without a redex is no tuple
no_redex_function : (f : Term) → not (is_abstraction f) ≡ true → (a : Ty) (u : Term) → ¬ (f ≡ term.Lam a u)
no_redex_function f h a u is = true≢false (sym (ap is_abstraction is ∙ lam_is a u) ∙ not_true (is_abstraction f) h)

no_redex_tuple : (ctx : List Ty) (e : Term) (types : List Ty) → not (is_tuple_of (length types) e) ≡ true → HasType ctx e (ty.Tup types) → (ts : List Term) → ¬ (e ≡ term.Tup ts)
no_redex_tuple ctx e types h k ts is =
    let (others, p, less, ks) = of_tup ctx ts (ty.Tup types) (subst (λ e. HasType ctx e (ty.Tup types)) is k) in
    let size : length ts ≡ length types = as_many ks ∙ sym (ap length (one_tuple types others p)) in
    true≢false (sym (ap (is_tuple_of (length types)) is ∙ ap (λ n. is_tuple_of n (term.Tup ts)) (sym size) ∙ tup_is ts) ∙ not_true (is_tuple_of (length types) e) h)

-- a typed term without redexes is normal
mutual
  normal : {ctx : List Ty} {t : Term} {c : Ty} → HasType ctx t c → is_redex_free t ≡ true → IsNormal t
  normal (HasType.var n p is) h = IsNormal.neutral (IsNeutral.var n)
  normal (HasType.lam a body is k) h = IsNormal.lam a body (normal k (sym (free_lam a body) ∙ h))
  normal {ctx = ctx} {c = b} (HasType.app {a = a} f e k l) h =
      let all = sym (free_app f e) ∙ h in
      let parts = right_true (not (is_abstraction f)) (is_redex_free f && is_redex_free e) all in
      let function = normal k (left_true (is_redex_free f) (is_redex_free e) parts) in
      IsNormal.neutral (IsNeutral.app f e
      (is_neutral function (no_redex_function f (left_true (not (is_abstraction f)) (is_redex_free f && is_redex_free e) all)) (no_tuple ctx f a b k))
      (normal l (right_true (is_redex_free f) (is_redex_free e) parts)))
  normal (HasType.tup ts types less ks) h = IsNormal.tup ts (normal_each ks (sym (free_tup ts) ∙ h))
  normal {ctx = ctx} (HasType.proj i e types less p k) h =
      let all = sym (free_proj (i + 1) (length types) e) ∙ h in
      let tuple = normal k (right_true (not (is_tuple_of (length types) e)) (is_redex_free e) all) in
      IsNormal.neutral (IsNeutral.proj (i + 1) (length types) e
      (is_neutral tuple (no_abstraction ctx e types k) (no_redex_tuple ctx e types (left_true (not (is_tuple_of (length types) e)) (is_redex_free e) all) k)))

  normal_each : {ctx : List Ty} {ts : List Term} {types : List Ty} → HaveTypes ctx ts types → are_redex_free ts ≡ true → AreNormal ts
  normal_each HaveTypes.none h = AreNormal.none
  normal_each (HaveTypes.more {t = t} {terms = ts} k ks) h = AreNormal.more (normal k (left_true (is_redex_free t) (are_redex_free ts) h)) (normal_each ks (right_true (is_redex_free t) (are_redex_free ts) h))

pub contracted_short : (ctx : List Ty) (a : Ty) (t l u : Term) → HasType ctx t a → IsLongForm (length ctx) t l → IsContraction (length ctx) l u → IsShortNormal (length ctx) u
contracted_short ctx a t l u k form contracts =
    normal_contraction_short (length ctx) l u (normal (long_form_typed ctx a t l k form) (long_form_free (length ctx) t l form)) contracts
