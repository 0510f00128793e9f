-- Equality of schemes in a theory of types.
use Rattle.type_core.specs.declared.ty.Scheme.{Scheme}
use Rattle.type_core.specs.declared.ty.Ty.{Ty}
use Rattle.type_core.specs.Renaming.{Renames, Renaming}
use Rattle.type_core.specs.Types.{IsType}

-- some renaming, one-to-one on the variables of a and keeping marks, turns a into a type equal to b; in the theory of
-- identity this is equality up to the names of variables
abbrev pub AreEqualIn : (Ty → Ty → Type 0) → Scheme → Scheme → Type 0
AreEqualIn Equal a b = (r : Renaming) × (c : Ty) × Renames r a.body c × Equal c b.body

-- the relation is an equivalence on the schemes of types
pub record IsEquivalence (Equal : Scheme → Scheme → Type 0) : Type 0 where
  pub reflexive : (a : Scheme) → IsType a.body → Equal a a
  pub symmetric : (a b : Scheme) → Equal a b → Equal b a
  pub transitive : (a b c : Scheme) → Equal a b → Equal b c → Equal a c
