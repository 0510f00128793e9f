-- Reduction by beta and by projection, anywhere in a term.
use Rattle.std.proofs.Common.{◌≡◌, ℕ, ◌+◌, List, [], ◌∷◌, length, Some, slice_get}
use Rattle.type_core.specs.declared.ty.Ty.{Ty}
use Rattle.conv_terms.specs.declared.term.Term.{Term}
use Rattle.conv_terms.specs.declared.term.Term.TheVariants as term
use Rattle.conv_terms.specs.Substitution.{substituted}
use Rattle.conv_terms.specs.LongForm.{IsLongForm, AreLongForms}
use Rattle.conv_plain.specs.Functions.{applied}

mutual
  -- in a context of n variables, the second term comes of the first by steps of beta and of projection
  pub data Reduces : ℕ → Term → Term → Type 0 where
    same : {n : ℕ} {t : Term} → Reduces n t t
    chain : {n : ℕ} {t u v : Term} → Reduces n t u → Reduces n u v → Reduces n t v
    lam : {n : ℕ} (a : Ty) {t u : Term} → Reduces (n + 1) t u → Reduces n (term.Lam a t) (term.Lam a u)
    app : {n : ℕ} {f g t u : Term} → Reduces n f g → Reduces n t u → Reduces n (term.App f t) (term.App g u)
    tup : {n : ℕ} {ts us : List Term} → ReduceEach n ts us → Reduces n (term.Tup ts) (term.Tup us)
    proj : {n : ℕ} (i count : ℕ) {t u : Term} → Reduces n t u → Reduces n (term.Proj i count t) (term.Proj i count u)
    beta : {n : ℕ} (a : Ty) (t e : Term) → Reduces n (term.App (term.Lam a t) e) (substituted n e t)
    projection : {n : ℕ} (i : ℕ) (ts : List Term) (t : Term) → slice_get ts i ≡ Some t → Reduces n (term.Proj (i + 1) (length ts) (term.Tup ts)) t

  -- each of the second terms comes of the first
  pub data ReduceEach : ℕ → List Term → List Term → Type 0 where
    none : {n : ℕ} → ReduceEach n [] []
    more : {n : ℕ} {t u : Term} {ts us : List Term} → Reduces n t u → ReduceEach n ts us → ReduceEach n (t ∷ ts) (u ∷ us)

pub applied_reduces : (n : ℕ) (f g : Term) (us : List Term) → Reduces n f g → Reduces n (applied f us) (applied g us)
applied_reduces n f g [] k = k
applied_reduces n f g (u ∷ us) k = applied_reduces n (term.App f u) (term.App g u) us (Reduces.app k Reduces.same)

-- a term reduces to its long form
mutual
  pub long_form_reduces : {n : ℕ} {t u : Term} → IsLongForm n t u → Reduces n t u
  long_form_reduces (IsLongForm.var i) = Reduces.same
  long_form_reduces (IsLongForm.lam a t u k) = Reduces.lam a (long_form_reduces k)
  long_form_reduces (IsLongForm.tup ts us ks) = Reduces.tup (long_forms_reduce ks)
  long_form_reduces (IsLongForm.beta f e a t u k l m) = Reduces.chain (Reduces.app (long_form_reduces k) (long_form_reduces l)) (Reduces.chain (Reduces.beta a t u) (long_form_reduces m))
  long_form_reduces (IsLongForm.app f e g u h k l) = Reduces.app (long_form_reduces k) (long_form_reduces l)
  long_form_reduces {u = u} (IsLongForm.projection i e ts k l) = Reduces.chain (Reduces.proj (i + 1) (length ts) (long_form_reduces k)) (Reduces.projection i ts u l)
  long_form_reduces (IsLongForm.proj i c e u h k) = Reduces.proj i c (long_form_reduces k)

  long_forms_reduce : {n : ℕ} {ts us : List Term} → AreLongForms n ts us → ReduceEach n ts us
  long_forms_reduce AreLongForms.none = ReduceEach.none
  long_forms_reduce (AreLongForms.more k ks) = ReduceEach.more (long_form_reduces k) (long_forms_reduce ks)
