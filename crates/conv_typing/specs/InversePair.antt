-- Inverse pairs: two closed functions that undo each other.
use Rattle.std.specs.Prelude.{[]}
use Rattle.type_core.specs.declared.ty.Ty.{Ty}
use Rattle.type_core.specs.declared.ty.Ty.TheVariants as ty
use Rattle.conv_terms.specs.declared.term.Term.{Term}
use Rattle.conv_terms.specs.declared.term.Term.TheVariants as term
use Rattle.conv_terms.specs.Shifting.{shifted}
use Rattle.conv_typing.specs.Typing.{HasType}
use Rattle.conv_typing.specs.Conversion.{Converts}

-- fn (x : a) => x
abbrev pub identity : Ty → Term
identity a = term.Lam a (term.Var 0)

-- fn (x : a) => g (f x), for closed f and g, which make room for x
abbrev pub composed : Ty → Term → Term → Term
composed a g f = term.Lam a (term.App (shifted 0 1 g) (term.App (shifted 0 1 f) (term.Var 0)))

-- to goes from a to b, from goes from b to a, both are closed, and each undoes the other
pub record IsInversePair (a b : Ty) (to from : Term) : Type 0 where
  pub to_typed : HasType [] to (ty.Arrow a b)
  pub from_typed : HasType [] from (ty.Arrow b a)
  pub undone : Converts [] (ty.Arrow a a) (composed a from to) (identity a)
  pub redone : Converts [] (ty.Arrow b b) (composed b to from) (identity b)
