-- The long form of a term: what comes of it where every redex is reduced, by beta and by projection.
use Rattle.std.specs.Prelude.{◌≡◌, ℕ, ◌+◌, ◌==◌, Bool, true, false, List, [], ◌∷◌, length, slice_get, Some}
use Rattle.type_core.specs.declared.ty.Ty.{Ty}
use Rattle.conv_terms.specs.declared.term.Term.{Term, out-Term}
use Rattle.conv_terms.specs.declared.term.Term.TheVariants as term
use Rattle.conv_terms.specs.declared.term.Term.TheOpen.{Term-F, Lam, Tup}
use Rattle.conv_terms.specs.Substitution.{substituted}

abbrev pub abstraction_form : Term-F Term → Bool
abstraction_form (Lam a body) = true
abstraction_form _ = false

-- the term is an abstraction
abbrev pub is_abstraction : Term → Bool
is_abstraction t = abstraction_form (out-Term t)

abbrev pub tuple_form : ℕ → Term-F Term → Bool
tuple_form n (Tup components) = length components == n
tuple_form n _ = false

-- the term is a tuple of n components
abbrev pub is_tuple_of : ℕ → Term → Bool
is_tuple_of n t = tuple_form n (out-Term t)

mutual
  -- in a context of n variables, the second term is the long form of the first
  pub data IsLongForm : ℕ → Term → Term → Type 0 where
    var : {n : ℕ} (i : ℕ) → IsLongForm n (term.Var i) (term.Var i)
    lam : {n : ℕ} (a : Ty) (t u : Term) → IsLongForm (n + 1) t u → IsLongForm n (term.Lam a t) (term.Lam a u)
    tup : {n : ℕ} (ts us : List Term) → AreLongForms n ts us → IsLongForm n (term.Tup ts) (term.Tup us)
    -- the function comes to fn (x : a) => t: the long form of t with the argument's for x
    beta : {n : ℕ} {h : Term} (f e : Term) (a : Ty) (t u : Term) → IsLongForm n f (term.Lam a t) → IsLongForm n e u → IsLongForm n (substituted n u t) h → IsLongForm n (term.App f e) h
    app : {n : ℕ} (f e g u : Term) → is_abstraction g ≡ false → IsLongForm n f g → IsLongForm n e u → IsLongForm n (term.App f e) (term.App g u)
    -- the tuple comes to (t1, .., tm), and m components are projected from: its component
    projection : {n : ℕ} {h : Term} (i : ℕ) (e : Term) (ts : List Term) → IsLongForm n e (term.Tup ts) → slice_get ts i ≡ Some h → IsLongForm n (term.Proj (i + 1) (length ts) e) h
    proj : {n : ℕ} (i count : ℕ) (e u : Term) → is_tuple_of count u ≡ false → IsLongForm n e u → IsLongForm n (term.Proj i count e) (term.Proj i count u)

  -- each of the second terms is the long form of the first
  pub data AreLongForms : ℕ → List Term → List Term → Type 0 where
    none : {n : ℕ} → AreLongForms n [] []
    more : {n : ℕ} {t u : Term} {ts us : List Term} → IsLongForm n t u → AreLongForms n ts us → AreLongForms n (t ∷ ts) (u ∷ us)
