-- Steps of derivations, in which either side's being a type tells that each side is one.
use Rattle.std.proofs.Common.{◌≡◌, [], ◌∷◌, subst}
use Rattle.type_core.specs.declared.ty.Ty.{Ty}
use Rattle.type_core.specs.declared.ty.Ty.TheVariants as ty
use Rattle.type_core.specs.Types.{IsType}
use Rattle.iso_axioms.specs.Axioms.{◌⇒◌, ◌⊗◌, unit, LinearAxiom, commute, associate, curry, times_unit, from_unit, nest}
use Rattle.iso_axioms.specs.Theory.{Closure, of_axiom, reflexive, symmetric, transitive, in_component}
use Rattle.iso_axioms.proofs.Types.{arrow_type, arrow_types, pair_type, pair_types, tuple_of, tuple_types, more_types, each_type, unit_type}
use Rattle.iso_axioms.proofs.Closed.{in_arrow, relates_types}

-- one side of a linear axiom is a type where the other is
linear_right : {a b : Ty} → LinearAxiom a b → IsType a → IsType b
linear_right (commute a b) p = let each = pair_types a b p in pair_type b a each.1 each.0
linear_right (associate a b c) p =
    let outer = pair_types a (b ⊗ c) p in
    let inner = pair_types b c outer.1 in
    pair_type (a ⊗ b) c (pair_type a b outer.0 inner.0) inner.1
linear_right (curry a b c) p =
    let sides = arrow_types (a ⊗ b) c p in
    let each = pair_types a b sides.0 in
    arrow_type a (b ⇒ c) each.0 (arrow_type b c each.1 sides.1)
linear_right (times_unit a) p = (pair_types a unit p).0
linear_right (from_unit a) p = (arrow_types unit a p).1
linear_right (nest a b c ts) p =
    let each = each_type a (b ∷ c ∷ ts) (tuple_types (a ∷ b ∷ c ∷ ts) p).1 in
    pair_type a (ty.Tup (b ∷ c ∷ ts)) each.0 (tuple_of b c ts each.1)

linear_left : {a b : Ty} → LinearAxiom a b → IsType b → IsType a
linear_left (commute a b) p = let each = pair_types b a p in pair_type a b each.1 each.0
linear_left (associate a b c) p =
    let outer = pair_types (a ⊗ b) c p in
    let inner = pair_types a b outer.0 in
    pair_type a (b ⊗ c) inner.0 (pair_type b c inner.1 outer.1)
linear_left (curry a b c) p =
    let outer = arrow_types a (b ⇒ c) p in
    let inner = arrow_types b c outer.1 in
    arrow_type (a ⊗ b) c (pair_type a b outer.0 inner.0) inner.1
linear_left (times_unit a) p = pair_type a unit p unit_type
linear_left (from_unit a) p = arrow_type unit a unit_type p
linear_left (nest a b c ts) p =
    let each = pair_types a (ty.Tup (b ∷ c ∷ ts)) p in
    tuple_of a b (c ∷ ts) (more_types a (b ∷ c ∷ ts) each.0 (tuple_types (b ∷ c ∷ ts) each.1).1)

-- the trees are equal in the theory, if either is a type
pub record IsEqual (Axiom : Ty → Ty → Type 0) (a b : Ty) : Type 0 where
  pub forth : IsType a → Closure Axiom a b
  pub hither : IsType b → Closure Axiom a b

module _ (Axiom : Ty → Ty → Type 0) where
  infixr 30 ◌▹◌
  pub ◌▹◌ : {a b c : Ty} → IsEqual Axiom a b → IsEqual Axiom b c → IsEqual Axiom a c
  e ▹ f = record {
    forth = λ p. let d = e.forth p in transitive d (f.forth (relates_types Axiom d).1);
    hither = λ p. let d = f.hither p in transitive (e.hither (relates_types Axiom d).0) d;
  }

  pub turned : {a b : Ty} → IsEqual Axiom a b → IsEqual Axiom b a
  turned e = record { forth = λ p. symmetric (e.hither p); hither = λ p. symmetric (e.forth p) }

  pub itself : (a : Ty) → IsEqual Axiom a a
  itself a = record { forth = reflexive a; hither = reflexive a }

  pub of_eq : {a b : Ty} → a ≡ b → IsEqual Axiom a b
  of_eq {a} e = subst (IsEqual Axiom a) e (itself a)

  -- both components of a pair
  pub in_pair : {a b c d : Ty} → Closure Axiom a b → Closure Axiom c d → Closure Axiom (a ⊗ c) (b ⊗ d)
  in_pair {a} {b} {c} {d} e f =
      let first = relates_types Axiom e in
      let second = relates_types Axiom f in
      transitive (in_component [] (c ∷ []) (pair_type a c first.0 second.0) e) (in_component (b ∷ []) [] (pair_type b c first.1 second.0) f)

  pub in_both : {a b c d : Ty} → IsEqual Axiom a b → IsEqual Axiom c d → IsEqual Axiom (a ⊗ c) (b ⊗ d)
  in_both {a} {b} {c} {d} e f = record {
    forth = λ p. let each = pair_types a c p in in_pair (e.forth each.0) (f.forth each.1);
    hither = λ p. let each = pair_types b d p in in_pair (e.hither each.0) (f.hither each.1);
  }

  -- both sides of an arrow
  pub in_sides : {a b c d : Ty} → IsEqual Axiom a b → IsEqual Axiom c d → IsEqual Axiom (a ⇒ c) (b ⇒ d)
  in_sides {a} {b} {c} {d} e f = record {
    forth = λ p. let each = arrow_types a c p in in_arrow Axiom (e.forth each.0) (f.forth each.1);
    hither = λ p. let each = arrow_types b d p in in_arrow Axiom (e.hither each.0) (f.hither each.1);
  }

  -- a step after a derivation
  pub then : {a b c : Ty} → Closure Axiom a b → IsEqual Axiom b c → Closure Axiom a c
  then d e = transitive d (e.forth (relates_types Axiom d).1)

  pub by_linear : ((a b : Ty) → LinearAxiom a b → Axiom a b) → {a b : Ty} → LinearAxiom a b → IsEqual Axiom a b
  by_linear has {a} {b} e = record { forth = λ p. of_axiom p (linear_right e p) (has a b e); hither = λ p. of_axiom (linear_left e p) p (has a b e) }
