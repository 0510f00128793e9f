-- The axioms of isomorphism between types (Di Cosmo 1995), and those of them that are linear.
use Rattle.std.specs.Prelude.{List, [], ◌∷◌}
use Rattle.type_core.specs.declared.ty.Ty.{Ty}
use Rattle.type_core.specs.declared.ty.Ty.TheVariants as ty

infixr 60 ◌⊗◌
infixr 50 ◌⇒◌
-- the tuple of none
abbrev pub unit : Ty
unit = ty.Tup []

-- the product of two types, which is the tuple of them
abbrev pub ◌⊗◌ : Ty → Ty → Ty
a ⊗ b = ty.Tup (a ∷ b ∷ [])

-- the type of the functions from a to b
abbrev pub ◌⇒◌ : Ty → Ty → Ty
a ⇒ b = ty.Arrow a b

-- the linear axioms: no side of one has a type twice that the other has once, nor a type that the other lacks
pub data LinearAxiom : Ty → Ty → Type 0 where
  -- A * B = B * A
  commute : (a b : Ty) → LinearAxiom (a ⊗ b) (b ⊗ a)
  -- A * (B * C) = (A * B) * C
  associate : (a b c : Ty) → LinearAxiom (a ⊗ (b ⊗ c)) ((a ⊗ b) ⊗ c)
  -- (A * B) -> C = A -> (B -> C)
  curry : (a b c : Ty) → LinearAxiom ((a ⊗ b) ⇒ c) (a ⇒ (b ⇒ c))
  -- A * unit = A
  times_unit : (a : Ty) → LinearAxiom (a ⊗ unit) a
  -- unit -> A = A
  from_unit : (a : Ty) → LinearAxiom (unit ⇒ a) a
  -- a tuple of three or more components is the first times the tuple of the rest
  nest : (a b c : Ty) (ts : List Ty) → LinearAxiom (ty.Tup (a ∷ b ∷ c ∷ ts)) (a ⊗ ty.Tup (b ∷ c ∷ ts))

-- all axioms
pub data IsoAxiom : Ty → Ty → Type 0 where
  linear : {a b : Ty} → LinearAxiom a b → IsoAxiom a b
  -- A -> (B * C) = (A -> B) * (A -> C)
  distribute : (a b c : Ty) → IsoAxiom (a ⇒ (b ⊗ c)) ((a ⇒ b) ⊗ (a ⇒ c))
  -- A -> unit = unit
  to_unit : (a : Ty) → IsoAxiom (a ⇒ unit) unit
