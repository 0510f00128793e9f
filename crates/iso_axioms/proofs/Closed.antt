-- What holds of the theory of any axioms.
use Rattle.type_core.specs.declared.ty.Ty.{Ty}
use Rattle.type_core.specs.Types.{IsType}
use Rattle.iso_axioms.specs.Axioms.{◌⇒◌, IsoAxiom, LinearAxiom, linear}
use Rattle.iso_axioms.specs.Theory.{Closure, IsIsomorphic, IsLinearlyIsomorphic, of_axiom, reflexive, symmetric, transitive, in_from, in_to, in_component}
use Rattle.iso_axioms.proofs.Types.{arrow_type, exchanged_type}

module _ (Axiom : Ty → Ty → Type 0) where
  pub relates_types : {a b : Ty} → Closure Axiom a b → IsType a × IsType b
  relates_types (of_axiom p q e) = (p, q)
  relates_types (reflexive a p) = (p, p)
  relates_types (symmetric e) = let types = relates_types e in (types.1, types.0)
  relates_types (transitive e f) = ((relates_types e).0, (relates_types f).1)
  relates_types (in_from {a} {b} c p e) = let types = relates_types e in (arrow_type a c types.0 p, arrow_type b c types.1 p)
  relates_types (in_to {a} {b} c p e) = let types = relates_types e in (arrow_type c a p types.0, arrow_type c b p types.1)
  relates_types (in_component {a} {b} before after p e) = (p, exchanged_type before after a b (relates_types e).1 p)

  pub in_arrow : {a b c d : Ty} → Closure Axiom a b → Closure Axiom c d → Closure Axiom (a ⇒ c) (b ⇒ d)
  in_arrow {a} {b} {c} {d} e f = transitive (in_from c (relates_types f).0 e) (in_to b (relates_types e).1 f)

-- the theory of more axioms has more equations
pub more_axioms : (L M : Ty → Ty → Type 0) → ((a b : Ty) → L a b → M a b) → {a b : Ty} → Closure L a b → Closure M a b
more_axioms L M has (of_axiom {a} {b} p q e) = of_axiom p q (has a b e)
more_axioms L M has (reflexive a p) = reflexive a p
more_axioms L M has (symmetric e) = symmetric (more_axioms L M has e)
more_axioms L M has (transitive e f) = transitive (more_axioms L M has e) (more_axioms L M has f)
more_axioms L M has (in_from c p e) = in_from c p (more_axioms L M has e)
more_axioms L M has (in_to c p e) = in_to c p (more_axioms L M has e)
more_axioms L M has (in_component before after p e) = in_component before after p (more_axioms L M has e)

pub linear_is_less : {a b : Ty} → IsLinearlyIsomorphic a b → IsIsomorphic a b
linear_is_less = more_axioms LinearAxiom IsoAxiom (λ a b. linear)
