-- The parts of a term.
use Rattle.std.specs.Prelude.{◌≡◌, ℕ, List, slice_get, Some}
use Rattle.type_core.specs.declared.ty.Ty.{Ty}
use Rattle.conv_terms.specs.declared.term.Term.{Term}
use Rattle.conv_terms.specs.declared.term.Term.TheVariants as term

-- the first term is the second or stands in it
pub data IsPart : Term → Term → Type 0 where
  whole : {t : Term} → IsPart t t
  body : {s : Term} (a : Ty) (t : Term) → IsPart s t → IsPart s (term.Lam a t)
  function : {s : Term} (f e : Term) → IsPart s f → IsPart s (term.App f e)
  argument : {s : Term} (f e : Term) → IsPart s e → IsPart s (term.App f e)
  component : {s : Term} (ts : List Term) (i : ℕ) (t : Term) → slice_get ts i ≡ Some t → IsPart s t → IsPart s (term.Tup ts)
  projected : {s : Term} (i n : ℕ) (e : Term) → IsPart s e → IsPart s (term.Proj i n e)
