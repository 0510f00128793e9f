-- Functions of many arguments, with one more at the end.
use Rattle.std.proofs.Common.{◌≡◌, ℕ, ◌+◌, ◌-◌, ◌<◌, List, [], ◌∷◌, ◌++◌, refl, ap, arith, zero, suc}
use Rattle.type_core.specs.declared.ty.Ty.{Ty}
use Rattle.type_core.specs.declared.ty.Ty.TheVariants as ty
use Rattle.conv_terms.specs.declared.term.Term.{Term}
use Rattle.conv_terms.specs.declared.term.Term.TheVariants as term
use Rattle.conv_plain.specs.Functions.{arrows, abstractions, variables}

pub arrows_push : (as' : List Ty) (a b : Ty) → arrows (as' ++ a ∷ []) b ≡ arrows as' (ty.Arrow a b)
arrows_push [] a b = refl
arrows_push (c ∷ as') a b = ap (ty.Arrow c) (arrows_push as' a b)

pub abstractions_push : (as' : List Ty) (a : Ty) (t : Term) → abstractions (as' ++ a ∷ []) t ≡ abstractions as' (term.Lam a t)
abstractions_push [] a t = refl
abstractions_push (c ∷ as') a t = ap (term.Lam c) (abstractions_push as' a t)

pub variables_more : (n count : ℕ) → 0 < count → variables n count ≡ term.Var n ∷ variables (n + 1) (count - 1)
variables_more n zero h = let no : ⊥ = omega arith in absurd no
variables_more n (suc count) h = let e : count ≡ suc count - 1 = omega arith in ap (λ m. term.Var n ∷ variables (n + 1) m) e
