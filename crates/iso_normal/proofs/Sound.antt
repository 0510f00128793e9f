-- Equal types read alike: each axiom keeps what is read, up to order.
use Rattle.std.proofs.Common.{◌≡◌, List, [], ◌∷◌, ◌++◌, map, refl, sym, ap, ap₂, ◌∙◌, subst₂, append-nil}
use Rattle.std.proofs.lemmas.List.{append_assoc}
use Rattle.type_core.specs.declared.ty.Ty.{Ty}
use Rattle.type_core.specs.declared.ty.Ty.TheVariants as ty
use Rattle.type_core.specs.Lists.{concatenated}
use Rattle.iso_axioms.specs.Axioms.{◌⇒◌, ◌⊗◌, unit, IsoAxiom, LinearAxiom, commute, associate, curry, times_unit, from_unit, nest, linear, distribute, to_unit}
use Rattle.iso_axioms.specs.Theory.{Closure, IsIsomorphic, IsLinearlyIsomorphic, of_axiom, reflexive, symmetric, transitive, in_from, in_to, in_component}
use Rattle.iso_normal.specs.declared.factor.Factor.{Factor}
use Rattle.iso_normal.specs.declared.factor.Factor.TheVariants.{outs-Arr}
use Rattle.iso_normal.specs.declared.factor.Factor.TheViews.{out-Factor}
use Rattle.iso_normal.specs.Agreement.{Agree}
use Rattle.iso_normal.specs.Factors.{arrow_to, factors, factors_of_arrow}
use Rattle.iso_normal.proofs.Agreeing.{agree_append, agree_arrow, agree_comm, agree_of_eq, agree_refl, agree_sym, agree_to_each, agree_trans}
use Rattle.iso_normal.proofs.Readings.{Reads, arrow_to_append, behind, behind_append, coordinate_factors, of_pair, of_unit, reads_coordinates, reads_factors, to_each}

-- what a reading of arrows owes
record Arrows (arrow : List Factor → List Factor → List Factor) : Type 0 where
  alike : (ps qs fs gs : List Factor) → Agree ps qs → Agree fs gs → Agree (arrow ps fs) (arrow qs gs)
  curried : (ps qs fs : List Factor) → arrow (ps ++ qs) fs ≡ arrow ps (arrow qs fs)
  from_none : (fs : List Factor) → arrow [] fs ≡ fs

module _ (read : Ty → List Factor) (arrow : List Factor → List Factor → List Factor) (R : Reads read arrow) (A : Arrows arrow) where
  pair : (a b : Ty) → read (a ⊗ b) ≡ read a ++ read b
  pair = of_pair read arrow R

  nothing : read unit ≡ []
  nothing = of_unit read arrow R

  parts : (before after : List Ty) (a b : Ty) → Agree (read a) (read b) → Agree (concatenated (map read (before ++ a ∷ after))) (concatenated (map read (before ++ b ∷ after)))
  parts [] after a b e = agree_append e (agree_refl _)
  parts (t ∷ before) after a b e = agree_append (agree_refl (read t)) (parts before after a b e)

  curried : (a b c : Ty) → read ((a ⊗ b) ⇒ c) ≡ read (a ⇒ (b ⇒ c))
  curried a b c = R.of_arrow (a ⊗ b) c ∙ ap (λ p. arrow p (read c)) (pair a b) ∙ A.curried (read a) (read b) (read c)
      ∙ sym (R.of_arrow a (b ⇒ c) ∙ ap (arrow (read a)) (R.of_arrow b c))

  associated : (a b c : Ty) → read (a ⊗ (b ⊗ c)) ≡ read ((a ⊗ b) ⊗ c)
  associated a b c = pair a (b ⊗ c) ∙ ap (λ r. read a ++ r) (pair b c) ∙ sym (append_assoc (read a) (read b) (read c))
      ∙ sym (pair (a ⊗ b) c ∙ ap (λ r. r ++ read c) (pair a b))

  linear_alike : {a b : Ty} → LinearAxiom a b → Agree (read a) (read b)
  linear_alike (commute a b) = subst₂ Agree (sym (pair a b)) (sym (pair b a)) (agree_comm (read a) (read b))
  linear_alike (associate a b c) = agree_of_eq (associated a b c)
  linear_alike (curry a b c) = agree_of_eq (curried a b c)
  linear_alike (times_unit a) = agree_of_eq (pair a unit ∙ ap (λ r. read a ++ r) nothing ∙ append-nil (read a))
  linear_alike (from_unit a) = agree_of_eq (R.of_arrow unit a ∙ ap (λ p. arrow p (read a)) nothing ∙ A.from_none (read a))
  linear_alike (nest a b c ts) = agree_of_eq (R.of_tup (a ∷ b ∷ c ∷ ts) ∙ sym (pair a (ty.Tup (b ∷ c ∷ ts)) ∙ ap (λ r. read a ++ r) (R.of_tup (b ∷ c ∷ ts))))

  module _ (Axiom : Ty → Ty → Type 0) (axiom_alike : (a b : Ty) → Axiom a b → Agree (read a) (read b)) where
    alike : {a b : Ty} → Closure Axiom a b → Agree (read a) (read b)
    alike (of_axiom {a} {b} p q e) = axiom_alike a b e
    alike (reflexive a p) = agree_refl (read a)
    alike (symmetric e) = agree_sym (alike e)
    alike (transitive e f) = agree_trans (alike e) (alike f)
    alike (in_from {a} {b} c p e) = subst₂ Agree (sym (R.of_arrow a c)) (sym (R.of_arrow b c)) (A.alike (read a) (read b) (read c) (read c) (alike e) (agree_refl (read c)))
    alike (in_to {a} {b} c p e) = subst₂ Agree (sym (R.of_arrow c a)) (sym (R.of_arrow c b)) (A.alike (read c) (read c) (read a) (read b) (agree_refl (read c)) (alike e))
    alike (in_component {a} {b} before after p e) = subst₂ Agree (sym (R.of_tup (before ++ a ∷ after))) (sym (R.of_tup (before ++ b ∷ after))) (parts before after a b (alike e))

-- coordinates
each_append : (ps fs gs : List Factor) → to_each ps (fs ++ gs) ≡ to_each ps fs ++ to_each ps gs
each_append ps [] gs = refl
each_append ps (f ∷ fs) gs = ap (λ r. behind ps f ∷ r) (each_append ps fs gs)

each_from_none : (fs : List Factor) → to_each [] fs ≡ fs
each_from_none [] = refl
each_from_none (f ∷ fs) = ap (λ r. f ∷ r) (each_from_none fs)

each_curried : (ps qs fs : List Factor) → to_each (ps ++ qs) fs ≡ to_each ps (to_each qs fs)
each_curried ps qs [] = refl
each_curried ps qs (f ∷ fs) = ap₂ ◌∷◌ (behind_append ps qs f) (each_curried ps qs fs)

arrows_to_each : Arrows to_each
arrows_to_each = record { alike = λ ps qs fs gs. agree_to_each; curried = each_curried; from_none = each_from_none }

-- the same, of the coordinates as factors
abbrev read : Ty → List Factor
read = coordinate_factors

distributed : (a b c : Ty) → read (a ⇒ (b ⊗ c)) ≡ read ((a ⇒ b) ⊗ (a ⇒ c))
distributed a b c =
    let R : Reads read to_each = reads_coordinates in
    R.of_arrow a (b ⊗ c) ∙ ap (to_each (read a)) (of_pair read to_each R b c) ∙ each_append (read a) (read b) (read c)
    ∙ sym (of_pair read to_each R (a ⇒ b) (a ⇒ c) ∙ ap₂ ◌++◌ (R.of_arrow a b) (R.of_arrow a c))

none_left : (a : Ty) → read (a ⇒ unit) ≡ read unit
none_left a = reads_coordinates.of_arrow a unit ∙ ap (to_each (read a)) (of_unit read to_each reads_coordinates) ∙ sym (of_unit read to_each reads_coordinates)

iso_alike : (a b : Ty) → IsoAxiom a b → Agree (read a) (read b)
iso_alike _ _ (linear e) = linear_alike read to_each reads_coordinates arrows_to_each e
iso_alike _ _ (distribute a b c) = agree_of_eq (distributed a b c)
iso_alike _ _ (to_unit a) = agree_of_eq (none_left a)

pub isomorphic_alike : {a b : Ty} → IsIsomorphic a b → Agree (coordinate_factors a) (coordinate_factors b)
isomorphic_alike = alike read to_each reads_coordinates arrows_to_each IsoAxiom iso_alike

-- factors
pub arrow_curried : (ps qs fs : List Factor) → factors_of_arrow (ps ++ qs) fs ≡ factors_of_arrow ps (factors_of_arrow qs fs)
arrow_curried [] qs fs = refl
arrow_curried (p ∷ ps) [] fs = ap (λ xs. factors_of_arrow xs fs) (append-nil (p ∷ ps))
arrow_curried (p ∷ ps) (q ∷ qs) [] = ap (λ x. arrow_to (p ∷ ps) x ∷ []) (sym (outs-Arr (q ∷ qs) []))
arrow_curried (p ∷ ps) (q ∷ qs) (f ∷ []) = ap (λ x. x ∷ []) (arrow_to_append (p ∷ ps) (q ∷ qs) (out-Factor f))
arrow_curried (p ∷ ps) (q ∷ qs) (f ∷ g ∷ fs) = ap (λ x. arrow_to (p ∷ ps) x ∷ []) (sym (outs-Arr (q ∷ qs) (f ∷ g ∷ fs)))

arrows_of_factors : Arrows factors_of_arrow
arrows_of_factors = record { alike = λ ps qs fs gs. agree_arrow; curried = arrow_curried; from_none = λ fs. refl }

pub linearly_isomorphic_agree : {a b : Ty} → IsLinearlyIsomorphic a b → Agree (factors a) (factors b)
linearly_isomorphic_agree = alike factors factors_of_arrow reads_factors arrows_of_factors LinearAxiom (λ a b. linear_alike factors factors_of_arrow reads_factors arrows_of_factors)
