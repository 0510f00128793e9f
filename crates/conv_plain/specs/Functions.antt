-- Functions of many arguments.
use Rattle.std.specs.Prelude.{ℕ, ◌+◌, List, [], ◌∷◌, zero, suc}
use Rattle.type_core.specs.declared.ty.Ty.{Ty}
use Rattle.type_core.specs.declared.ty.Ty.TheVariants as ty
use Rattle.conv_terms.specs.declared.term.Term.{Term}
use Rattle.conv_terms.specs.declared.term.Term.TheVariants as term

-- T1 -> .. -> Tm -> b, for these types T1 to Tm
abbrev pub arrows : List Ty → Ty → Ty
arrows [] b = b
arrows (a ∷ types) b = ty.Arrow a (arrows types b)

-- fn (y1 : T1) => .. fn (ym : Tm) => t, for these types T1 to Tm
abbrev pub abstractions : List Ty → Term → Term
abstractions [] t = t
abstractions (a ∷ types) t = term.Lam a (abstractions types t)

-- f u1 .. um, for these terms u1 to um
abbrev pub applied : Term → List Term → Term
applied f [] = f
applied f (u ∷ us) = applied (term.App f u) us

-- so many variables, beginning with the n-th
abbrev pub variables : ℕ → ℕ → List Term
variables n zero = []
variables n (suc count) = term.Var n ∷ variables (n + 1) count

-- the first of the terms, () where there is none
abbrev pub first_of : List Term → Term
first_of [] = term.Tup []
first_of (t ∷ ts) = t
