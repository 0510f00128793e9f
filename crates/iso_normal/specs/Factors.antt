-- The linear factors of a type, the type of a list of factors, and what a factor is.
use Rattle.std.specs.Prelude.{◌≡◌, List, [], ◌∷◌, ◌++◌, map}
use Rattle.type_core.specs.declared.ty.NameId.{NameId}
use Rattle.type_core.specs.declared.ty.VarId.{VarId}
use Rattle.type_core.specs.declared.ty.Ty.{Ty}
use Rattle.type_core.specs.declared.ty.Field.{Field}
use Rattle.type_core.specs.declared.ty.Ty.TheVariants as ty
use Rattle.type_core.specs.declared.ty.Ty.TheOpen.{Ty-F, Var, Con, Rec, Tup, Arrow}
use Rattle.type_core.specs.declared.ty.Ty.TheViews.{out-Ty}
use Rattle.type_core.specs.declared.ty.Ty.TheFolds.{para-Ty}
use Rattle.type_core.specs.Lists.{concatenated}
use Rattle.iso_axioms.specs.Axioms.{◌⇒◌, unit}
use Rattle.iso_normal.specs.declared.factor.Factor.{Factor}
use Rattle.iso_normal.specs.declared.factor.Factor.TheVariants as factor
use Rattle.iso_normal.specs.declared.factor.Factor.TheOpen.{Factor-F, Atom, Arr}
use Rattle.iso_normal.specs.declared.factor.Factor.TheViews.{out-Factor}
use Rattle.iso_normal.specs.declared.factor.Factor.TheFolds.{fold-Factor}

-- the arrow from the arguments to a factor: to an arrow, they stand before its own
abbrev pub arrow_to : List Factor → Factor-F Factor → Factor
arrow_to arguments (Atom t) = factor.Arr arguments (factor.Atom t ∷ [])
arrow_to arguments (Arr own results) = factor.Arr (arguments ++ own) results

-- the factors of an arrow, by those of its sides: without arguments the results, else one arrow
abbrev pub factors_of_arrow : List Factor → List Factor → List Factor
factors_of_arrow [] results = results
factors_of_arrow (f ∷ arguments) [] = factor.Arr (f ∷ arguments) [] ∷ []
factors_of_arrow (f ∷ arguments) (g ∷ []) = arrow_to (f ∷ arguments) (out-Factor g) ∷ []
factors_of_arrow (f ∷ arguments) (g ∷ h ∷ results) = factor.Arr (f ∷ arguments) (g ∷ h ∷ results) ∷ []

-- each part stands beside its factors: variables, applications and records are atoms, a tuple has the factors of its
-- components, and an arrow those of its sides' arrow
abbrev pub factors_step : Ty-F (Ty × List Factor) (Field × Unit {0}) → List Factor
factors_step (Var v) = factor.Atom (ty.Var v) ∷ []
factors_step (Con name arguments) = factor.Atom (ty.Con name (map (λ part. part.0) arguments)) ∷ []
factors_step (Rec fields) = factor.Atom (ty.Rec (map (λ part. part.0) fields)) ∷ []
factors_step (Tup components) = concatenated (map (λ part. part.1) components)
factors_step (Arrow from to) = factors_of_arrow from.1 to.1

-- the factors of the type
unfoldable pub factors : Ty → List Factor
factors = para-Ty (List Factor) (Unit {0}) factors_step (λ field. tt)

-- the product of types: unit for none, the type itself for one, else the tuple
abbrev pub product : List Ty → Ty
product [] = unit
product (t ∷ []) = t
product (t ∷ u ∷ ts) = ty.Tup (t ∷ u ∷ ts)

abbrev pub type_step : Factor-F Ty → Ty
type_step (Atom t) = t
type_step (Arr arguments results) = product arguments ⇒ product results

-- the type of a factor: an atom itself, or from the product of the arguments to that of the results
unfoldable pub type_of_factor : Factor → Ty
type_of_factor = fold-Factor Ty type_step

-- the type of a list of factors: the product of their types
abbrev pub type_of_factors : List Factor → Ty
type_of_factors fs = product (map type_of_factor fs)

-- a variable, an application or a record
pub data IsAtom : Ty-F Ty Field → Type 0 where
  variable : (v : VarId) → IsAtom (Var v)
  application : (name : NameId) (arguments : List Ty) → IsAtom (Con name arguments)
  labelled : (fields : List Field) → IsAtom (Rec fields)

-- the factors aren't one single arrow
pub data IsNotOneArrow : List Factor → Type 0 where
  nothing : IsNotOneArrow []
  one_atom : {g : Factor} (t : Ty) → out-Factor g ≡ Atom t → IsNotOneArrow (g ∷ [])
  several : (g h : Factor) (rest : List Factor) → IsNotOneArrow (g ∷ h ∷ rest)

mutual
  -- a factor is an atom, or an arrow from at least one factor to factors that aren't one single arrow
  pub data IsFactor : Factor-F Factor → Type 0 where
    atom : (t : Ty) → IsAtom (out-Ty t) → IsFactor (Atom t)
    arrow : {f : Factor} {others results : List Factor} → AreFactors (f ∷ others) → AreFactors results → IsNotOneArrow results → IsFactor (Arr (f ∷ others) results)

  -- each of them is a factor
  pub data AreFactors : List Factor → Type 0 where
    none : AreFactors []
    more : {f : Factor} {fs : List Factor} → IsFactor (out-Factor f) → AreFactors fs → AreFactors (f ∷ fs)
