-- The theories of the axioms: which types are equal in them.
use Rattle.std.specs.Prelude.{List, ◌∷◌, ◌++◌}
use Rattle.type_core.specs.declared.ty.Ty.{Ty}
use Rattle.type_core.specs.declared.ty.Ty.TheVariants as ty
use Rattle.type_core.specs.Types.{IsType}
use Rattle.iso_axioms.specs.Axioms.{◌⇒◌, IsoAxiom, LinearAxiom}

-- the least relation on types that is an equivalence, has the axioms, and may be applied on either side of an
-- arrow and in each component of a tuple; not beneath a name or a label
-- (each step is between types, as its premises say; so no derivation passes through a tuple of one component)
pub data Closure (Axiom : Ty → Ty → Type 0) : Ty → Ty → Type 0 where
  of_axiom : {a b : Ty} → IsType a → IsType b → Axiom a b → Closure Axiom a b
  reflexive : (a : Ty) → IsType a → Closure Axiom a a
  symmetric : {a b : Ty} → Closure Axiom a b → Closure Axiom b a
  transitive : {a b c : Ty} → Closure Axiom a b → Closure Axiom b c → Closure Axiom a c
  in_from : {a b : Ty} (c : Ty) → IsType c → Closure Axiom a b → Closure Axiom (a ⇒ c) (b ⇒ c)
  in_to : {a b : Ty} (c : Ty) → IsType c → Closure Axiom a b → Closure Axiom (c ⇒ a) (c ⇒ b)
  in_component : {a b : Ty} (before after : List Ty) → IsType (ty.Tup (before ++ a ∷ after)) → Closure Axiom a b → Closure Axiom (ty.Tup (before ++ a ∷ after)) (ty.Tup (before ++ b ∷ after))

-- equal in the theory of isomorphisms
abbrev pub IsIsomorphic : Ty → Ty → Type 0
IsIsomorphic = Closure IsoAxiom

-- equal in the linear theory
abbrev pub IsLinearlyIsomorphic : Ty → Ty → Type 0
IsLinearlyIsomorphic = Closure LinearAxiom
