-- Types that read alike are equal, since each is equal to the product of what it reads as.
use Rattle.std.proofs.Common.{◌≡◌, List, [], ◌∷◌, ◌++◌, map, refl, sym, ap, ◌∙◌, subst}
use Rattle.type_core.specs.declared.ty.Ty.{Ty}
use Rattle.type_core.specs.declared.ty.Ty.TheVariants as ty
use Rattle.type_core.specs.Lists.{concatenated}
use Rattle.type_core.specs.Types.{IsType}
use Rattle.type_core.proofs.Trees.{EachOf, induct_type}
use Rattle.iso_axioms.specs.Axioms.{◌⇒◌, ◌⊗◌, unit, IsoAxiom, LinearAxiom, commute, associate, curry, times_unit, from_unit, nest, linear, distribute, to_unit}
use Rattle.iso_axioms.specs.Theory.{Closure, IsIsomorphic, IsLinearlyIsomorphic, of_axiom, reflexive, symmetric, transitive}
use Rattle.iso_axioms.proofs.Types.{AreTypes, arrow_type, arrow_types, each_type, pair_type, pair_types, tuple_of, tuple_types, unit_type}
use Rattle.iso_axioms.proofs.Closed.{in_arrow, relates_types}
use Rattle.iso_normal.specs.declared.factor.Factor.{Factor}
use Rattle.iso_normal.specs.declared.factor.Factor.TheVariants as factor
use Rattle.iso_normal.specs.declared.factor.Factor.TheVariants.{rolls-Atom, rolls-Arr}
use Rattle.iso_normal.specs.declared.factor.Factor.TheOpen.{Factor-F, Atom, Arr}
use Rattle.iso_normal.specs.declared.factor.Factor.TheViews.{out-Factor}
use Rattle.iso_normal.specs.declared.factor.Factor.TheFolds.{fold-roll-Factor, fold_out-Factor, map-Factor}
use Rattle.iso_normal.specs.Agreement.{Agree, AreAlike, Takes, first, later, none, more, atoms, arrows}
use Rattle.iso_normal.specs.Factors.{arrow_to, factors, factors_of_arrow, product, type_of_factor, type_of_factors, type_step}
use Rattle.iso_normal.proofs.Equal as equal
use Rattle.iso_normal.proofs.Equal.{IsEqual}
use Rattle.iso_normal.proofs.Readings.{Reads, behind, coordinate_factors, reads_coordinates, reads_factors, to_each}

-- the types of factors
abbrev pub type_layer : Factor-F Factor → Ty
type_layer (Atom t) = t
type_layer (Arr args results) = type_of_factors args ⇒ type_of_factors results

layer_is : (x : Factor-F Factor) → type_step (map-Factor Factor Ty type_of_factor x) ≡ type_layer x
layer_is (Atom t) = refl
layer_is (Arr args results) = refl

type_folded : (f : Factor) → type_of_factor f ≡ type_step (map-Factor Factor Ty type_of_factor (out-Factor f))
unfolding type_of_factor
type_folded f = fold_out-Factor Ty type_step f

pub type_out : (f : Factor) → type_of_factor f ≡ type_layer (out-Factor f)
type_out f = type_folded f ∙ layer_is (out-Factor f)

pub type_atom : (t : Ty) → type_of_factor (factor.Atom t) ≡ t
unfolding type_of_factor
type_atom t = ap type_of_factor (sym (rolls-Atom t)) ∙ fold-roll-Factor Ty type_step _

pub type_arr : (args results : List Factor) → type_of_factor (factor.Arr args results) ≡ (type_of_factors args ⇒ type_of_factors results)
unfolding type_of_factor
type_arr args results = ap type_of_factor (sym (rolls-Arr args results)) ∙ fold-roll-Factor Ty type_step _

pub ruleset factor_types = (type_atom, type_arr)

-- products of types are types
product_type : (ts : List Ty) → AreTypes ts → IsType (product ts)
product_type [] p = unit_type
product_type (t ∷ []) p = (each_type t [] p).0
product_type (t ∷ u ∷ ts) p = tuple_of t u ts p

module _ (Axiom : Ty → Ty → Type 0) (has : (a b : Ty) → LinearAxiom a b → Axiom a b) where
  infix 40 ◌~◌
  infixr 30 ◌▹◌
  abbrev ◌~◌ : Ty → Ty → Type 0
  a ~ b = IsEqual Axiom a b

  ◌▹◌ : {a b c : Ty} → IsEqual Axiom a b → IsEqual Axiom b c → IsEqual Axiom a c
  e ▹ f = equal.◌▹◌ Axiom e f

  by : {a b : Ty} → LinearAxiom a b → IsEqual Axiom a b
  by = equal.by_linear Axiom has

  turned : {a b : Ty} → IsEqual Axiom a b → IsEqual Axiom b a
  turned = equal.turned Axiom

  itself : (a : Ty) → a ~ a
  itself = equal.itself Axiom

  of_eq : {a b : Ty} → a ≡ b → IsEqual Axiom a b
  of_eq = equal.of_eq Axiom

  in_both : {a b c d : Ty} → IsEqual Axiom a b → IsEqual Axiom c d → IsEqual Axiom (a ⊗ c) (b ⊗ d)
  in_both = equal.in_both Axiom

  in_sides : {a b c d : Ty} → IsEqual Axiom a b → IsEqual Axiom c d → IsEqual Axiom (a ⇒ c) (b ⇒ d)
  in_sides = equal.in_sides Axiom

  -- a product is its first type times that of the others
  cons : (t : Ty) (ts : List Ty) → product (t ∷ ts) ~ t ⊗ product ts
  cons t [] = turned (by (times_unit t))
  cons t (u ∷ []) = itself (t ⊗ u)
  cons t (u ∷ v ∷ ts) = by (nest t u v ts)

  more_factors : (f : Factor) (fs : List Factor) → type_of_factors (f ∷ fs) ~ type_of_factor f ⊗ type_of_factors fs
  more_factors f fs = cons (type_of_factor f) (map type_of_factor fs)

  exchanged : (a b c : Ty) → a ⊗ (b ⊗ c) ~ b ⊗ (a ⊗ c)
  exchanged a b c = by (associate a b c) ▹ in_both (by (commute a b)) (itself c) ▹ turned (by (associate b a c))

  taken : {f : Factor} {fs rest : List Factor} → Takes f fs rest → type_of_factors fs ~ type_of_factor f ⊗ type_of_factors rest
  taken {f} (first rest) = more_factors f rest
  taken {f} (later {all} {rest} g t) = more_factors g all ▹ in_both (itself (type_of_factor g)) (taken t)
      ▹ exchanged (type_of_factor g) (type_of_factor f) (type_of_factors rest) ▹ in_both (itself (type_of_factor f)) (turned (more_factors g rest))

  -- lists that agree have equal products
  mutual
    agreed : {fs gs : List Factor} → Agree fs gs → type_of_factors fs ~ type_of_factors gs
    agreed none = itself unit
    agreed (more {f} {g} {fs} t s others) = more_factors f fs ▹ in_both (of_eq (type_out f) ▹ agreed_one s ▹ of_eq (sym (type_out g))) (agreed others) ▹ turned (taken t)

    agreed_one : {x y : Factor-F Factor} → AreAlike x y → type_layer x ~ type_layer y
    agreed_one (atoms t) = itself t
    agreed_one (arrows a p) = in_sides (agreed a) (agreed p)

  append : (fs gs : List Factor) → type_of_factors (fs ++ gs) ~ type_of_factors fs ⊗ type_of_factors gs
  append [] gs = turned (by (times_unit (type_of_factors gs))) ▹ by (commute (type_of_factors gs) unit)
  append (f ∷ fs) gs = more_factors f (fs ++ gs) ▹ in_both (itself (type_of_factor f)) (append fs gs)
      ▹ by (associate (type_of_factor f) (type_of_factors fs) (type_of_factors gs)) ▹ in_both (turned (more_factors f fs)) (itself (type_of_factors gs))

  arrow_to_type : (ps : List Factor) (x : Factor-F Factor) → type_of_factor (arrow_to ps x) ~ (type_of_factors ps ⇒ type_layer x)
  arrow_to_type ps (Atom t) = of_eq (type_arr ps (factor.Atom t ∷ []) ∙ ap (λ u. type_of_factors ps ⇒ u) (type_atom t))
  arrow_to_type ps (Arr own results) = of_eq (type_arr (ps ++ own) results) ▹ in_sides (append ps own) (itself (type_of_factors results))
      ▹ by (curry (type_of_factors ps) (type_of_factors own) (type_of_factors results))

  arrow_to_factor : (ps : List Factor) (f : Factor) → type_of_factor (arrow_to ps (out-Factor f)) ~ (type_of_factors ps ⇒ type_of_factor f)
  arrow_to_factor ps f = arrow_to_type ps (out-Factor f) ▹ of_eq (ap (λ u. type_of_factors ps ⇒ u) (sym (type_out f)))

  -- a type is equal to the product of what it reads as, whatever the reading makes of arrows
  module _ (read : Ty → List Factor) (arrow : List Factor → List Factor → List Factor) (R : Reads read arrow)
      (arrow_is : (ps fs : List Factor) → IsType (type_of_factors ps ⇒ type_of_factors fs) → Closure Axiom (type_of_factors ps ⇒ type_of_factors fs) (type_of_factors (arrow ps fs))) where
    abbrev IsWhole : Ty → Type 0
    IsWhole t = IsType t → Closure Axiom t (type_of_factors (read t))

    atom : (t : Ty) → read t ≡ factor.Atom t ∷ [] → IsWhole t
    atom t e = (of_eq (sym (ap type_of_factors e ∙ type_atom t))).forth

    parts : (ts : List Ty) → EachOf IsWhole ts → AreTypes ts → Closure Axiom (product ts) (type_of_factors (concatenated (map read ts)))
    parts [] whole p = reflexive unit unit_type
    parts (t ∷ ts) whole p =
        let each = each_type t ts p in
        let first = (cons t ts).forth (product_type (t ∷ ts) p) in
        equal.then Axiom (transitive first (equal.in_pair Axiom (whole.0 each.0) (parts ts whole.1 each.1))) (turned (append (read t) (concatenated (map read ts))))

    -- a tuple of other than one component is the product of them
    tuple_is_product : (ts : List Ty) → IsType (ty.Tup ts) → ty.Tup ts ≡ product ts
    tuple_is_product [] p = refl
    tuple_is_product (t ∷ []) p = cc (tuple_types (t ∷ []) p).0
    tuple_is_product (t ∷ u ∷ ts) p = refl

    whole : (t : Ty) → IsWhole t
    whole = induct_type IsWhole
        (λ v. atom (ty.Var v) (R.of_var v))
        (λ name ts each. atom (ty.Con name ts) (R.of_con name ts))
        (λ fields each. atom (ty.Rec fields) (R.of_rec fields))
        (λ ts each p. subst (λ t. Closure Axiom t (type_of_factors (read (ty.Tup ts)))) (sym (tuple_is_product ts p))
        (subst (λ fs. Closure Axiom (product ts) (type_of_factors fs)) (sym (R.of_tup ts)) (parts ts each (tuple_types ts p).1)))
        (λ a b p q r. let sides = arrow_types a b r in
        let inside = in_arrow Axiom (p sides.0) (q sides.1) in
        subst (λ fs. Closure Axiom (a ⇒ b) (type_of_factors fs)) (sym (R.of_arrow a b)) (transitive inside (arrow_is (read a) (read b) (relates_types Axiom inside).1)))

    completed : (a b : Ty) → IsType a → IsType b → Agree (read a) (read b) → Closure Axiom a b
    completed a b p q e = transitive (equal.then Axiom (whole a p) (agreed e)) (symmetric (whole b q))

  -- as factors read arrows
  factors_of_arrow_type : (ps fs : List Factor) → (type_of_factors ps ⇒ type_of_factors fs) ~ type_of_factors (factors_of_arrow ps fs)
  factors_of_arrow_type [] fs = by (from_unit (type_of_factors fs))
  factors_of_arrow_type (p ∷ ps) [] = of_eq (sym (type_arr (p ∷ ps) []))
  factors_of_arrow_type (p ∷ ps) (f ∷ []) = turned (arrow_to_factor (p ∷ ps) f)
  factors_of_arrow_type (p ∷ ps) (f ∷ g ∷ fs) = of_eq (sym (type_arr (p ∷ ps) (f ∷ g ∷ fs)))

  behind_type : (ps : List Factor) (f : Factor) → (type_of_factors ps ⇒ type_of_factor f) ~ type_of_factor (behind ps f)
  behind_type [] f = by (from_unit (type_of_factor f))
  behind_type (p ∷ ps) f = turned (arrow_to_factor (p ∷ ps) f)

-- as coordinates read them
each_arrow : (ps fs : List Factor) → IsType (type_of_factors ps ⇒ type_of_factors fs) → IsIsomorphic (type_of_factors ps ⇒ type_of_factors fs) (type_of_factors (to_each ps fs))
each_arrow ps [] p = of_axiom p unit_type (to_unit (type_of_factors ps))
each_arrow ps (f ∷ fs) p =
    let has : (a b : Ty) → LinearAxiom a b → IsoAxiom a b = λ a b. linear in
    let c : Ty = type_of_factors ps in
    let split = (in_sides IsoAxiom has (itself IsoAxiom has c) (more_factors IsoAxiom has f fs)).forth p in
    let types = arrow_types c (type_of_factor f ⊗ type_of_factors fs) (relates_types IsoAxiom split).1 in
    let each = pair_types (type_of_factor f) (type_of_factors fs) types.1 in
    let first = arrow_type c (type_of_factor f) types.0 each.0 in
    let others = arrow_type c (type_of_factors fs) types.0 each.1 in
    let shared = of_axiom (relates_types IsoAxiom split).1 (pair_type (c ⇒ type_of_factor f) (c ⇒ type_of_factors fs) first others) (distribute c (type_of_factor f) (type_of_factors fs)) in
    equal.then IsoAxiom (transitive (transitive split shared) (equal.in_pair IsoAxiom ((behind_type IsoAxiom has ps f).forth first) (each_arrow ps fs others)))
    (turned IsoAxiom has (more_factors IsoAxiom has (behind ps f) (to_each ps fs)))

pub alike_isomorphic : (a b : Ty) → IsType a → IsType b → Agree (coordinate_factors a) (coordinate_factors b) → IsIsomorphic a b
alike_isomorphic = completed IsoAxiom (λ a b. linear) coordinate_factors to_each reads_coordinates each_arrow

pub agree_linearly_isomorphic : (a b : Ty) → IsType a → IsType b → Agree (factors a) (factors b) → IsLinearlyIsomorphic a b
agree_linearly_isomorphic = completed LinearAxiom (λ a b e. e) factors factors_of_arrow reads_factors (λ ps fs. (factors_of_arrow_type LinearAxiom (λ a b e. e) ps fs).forth)

-- a type is linearly equal to the product of its factors
pub linearly_whole : (t : Ty) → IsType t → IsLinearlyIsomorphic t (type_of_factors (factors t))
linearly_whole = whole LinearAxiom (λ a b e. e) factors factors_of_arrow reads_factors (λ ps fs. (factors_of_arrow_type LinearAxiom (λ a b e. e) ps fs).forth)
