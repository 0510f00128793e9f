-- What factors are, and the factors of their product.
use Rattle.std.proofs.Common.{◌≡◌, List, [], ◌∷◌, ◌++◌, map, refl, sym, ap, ap₂, ◌∙◌, subst, append-nil}
use Rattle.type_core.specs.declared.ty.Ty.{Ty}
use Rattle.type_core.specs.declared.ty.Field.{Field}
use Rattle.type_core.specs.declared.ty.Ty.TheVariants as ty
use Rattle.type_core.specs.declared.ty.Ty.TheVariants.{outs-Var, outs-Con, outs-Rec, rolls-Var, rolls-Con, rolls-Rec}
use Rattle.type_core.specs.declared.ty.Ty.TheOpen.{Ty-F}
use Rattle.type_core.specs.declared.ty.Ty.TheViews.{out-Ty, roll-Ty, roll-out-Ty}
use Rattle.type_core.specs.Lists.{concatenated}
use Rattle.type_core.proofs.Trees.{EachOf, induct_type}
use Rattle.iso_normal.specs.declared.factor.Factor.{Factor}
use Rattle.iso_normal.specs.declared.factor.Factor.TheVariants as factor
use Rattle.iso_normal.specs.declared.factor.Factor.TheVariants.{outs-Atom, outs-Arr, rolls-Atom, rolls-Arr}
use Rattle.iso_normal.specs.declared.factor.Factor.TheOpen.{Factor-F, Atom}
use Rattle.iso_normal.specs.declared.factor.Factor.TheViews.{out-Factor, roll-Factor, roll-out-Factor}
use Rattle.iso_normal.specs.Factors.{AreFactors, IsAtom, IsFactor, IsNotOneArrow, application, arrow, arrow_to, atom, factors, factors_of_arrow, labelled, more, none, nothing, one_atom, product, several, type_of_factor, type_of_factors, variable}
use Rattle.iso_normal.proofs.Complete.{type_layer, type_out}
use Rattle.iso_normal.proofs.Readings.{factors_arrow, factors_con, factors_rec, factors_tup, factors_var}

-- an atom is its only factor
atom_is : {t u : Ty} → t ≡ u → factors u ≡ factor.Atom u ∷ [] → factors t ≡ factor.Atom t ∷ []
atom_is e f = subst (λ u. factors u ≡ factor.Atom u ∷ []) (sym e) f

atom_alone : (t : Ty) (x : Ty-F Ty Field) → out-Ty t ≡ x → IsAtom x → factors t ≡ factor.Atom t ∷ []
atom_alone t x e (variable v) = atom_is (sym (roll-out-Ty t) ∙ ap roll-Ty e ∙ rolls-Var v) (factors_var v)
atom_alone t x e (application name ts) = atom_is (sym (roll-out-Ty t) ∙ ap roll-Ty e ∙ rolls-Con name ts) (factors_con name ts)
atom_alone t x e (labelled fields) = atom_is (sym (roll-out-Ty t) ∙ ap roll-Ty e ∙ rolls-Rec fields) (factors_rec fields)

-- lists of factors, joined and as the sides of an arrow
pub append_factors : {fs gs : List Factor} → AreFactors fs → AreFactors gs → AreFactors (fs ++ gs)
append_factors none n = n
append_factors (more m others) n = more m (append_factors others n)

one_factor : {x : Factor-F Factor} (f : Factor) → out-Factor f ≡ x → IsFactor x → AreFactors (f ∷ [])
one_factor f e n = more (subst IsFactor (sym e) n) none

arrow_to_factor : (f : Factor) (args : List Factor) (x : Factor-F Factor) → AreFactors (f ∷ args) → IsFactor x → AreFactors (arrow_to (f ∷ args) x ∷ [])
arrow_to_factor f args _ n (atom t a) =
    one_factor _ (outs-Arr (f ∷ args) (factor.Atom t ∷ [])) (arrow n (one_factor (factor.Atom t) (outs-Atom t) (atom t a)) (one_atom t (outs-Atom t)))
arrow_to_factor f args _ n (arrow {f = g} {others = own} {results} m r l) = one_factor _ (outs-Arr (f ∷ args ++ g ∷ own) results) (arrow (append_factors n m) r l)

pub arrow_factors : {ps fs : List Factor} → AreFactors ps → AreFactors fs → AreFactors (factors_of_arrow ps fs)
arrow_factors none m = m
arrow_factors (more {f = p} {fs = ps} n others) none = one_factor _ (outs-Arr (p ∷ ps) []) (arrow (more n others) none nothing)
arrow_factors (more {f = p} {fs = ps} n others) (more {f} m none) = arrow_to_factor p ps (out-Factor f) (more n others) m
arrow_factors (more {f = p} {fs = ps} n others) (more {f} m (more {f = g} {fs} k rest)) =
    one_factor _ (outs-Arr (p ∷ ps) (f ∷ g ∷ fs)) (arrow (more n others) (more m (more k rest)) (several f g fs))

-- those of a type are such
abbrev HasFactors : Ty → Type 0
HasFactors t = AreFactors (factors t)

atom_factor : (t : Ty) {x : Ty-F Ty Field} → factors t ≡ factor.Atom t ∷ [] → out-Ty t ≡ x → IsAtom x → HasFactors t
atom_factor t e is a = subst AreFactors (sym e) (one_factor (factor.Atom t) (outs-Atom t) (atom t (subst IsAtom (sym is) a)))

all_factors : (ts : List Ty) → EachOf HasFactors ts → AreFactors (concatenated (map factors ts))
all_factors [] each = none
all_factors (t ∷ ts) each = append_factors each.0 (all_factors ts each.1)

pub are_factors : (t : Ty) → AreFactors (factors t)
are_factors = induct_type HasFactors
    (λ v. atom_factor (ty.Var v) (factors_var v) (outs-Var v) (variable v))
    (λ name ts each. atom_factor (ty.Con name ts) (factors_con name ts) (outs-Con name ts) (application name ts))
    (λ fields each. atom_factor (ty.Rec fields) (factors_rec fields) (outs-Rec fields) (labelled fields))
    (λ ts each. subst AreFactors (sym (factors_tup ts)) (all_factors ts each))
    (λ a b n m. subst AreFactors (sym (factors_arrow a b)) (arrow_factors n m))

-- such factors are those of their product
made : (f : Factor) (x : Factor-F Factor) → out-Factor f ≡ x → roll-Factor x ≡ f
made f x e = ap roll-Factor (sym e) ∙ roll-out-Factor f

one_arrow : (f : Factor) (args : List Factor) {results : List Factor} → IsNotOneArrow results → factors_of_arrow (f ∷ args) results ≡ factor.Arr (f ∷ args) results ∷ []
one_arrow f args nothing = refl
one_arrow f args (one_atom {g} t e) =
    ap (λ h. h ∷ []) (ap (arrow_to (f ∷ args)) e ∙ ap (λ h. factor.Arr (f ∷ args) (h ∷ [])) (sym (rolls-Atom t) ∙ made g (Atom t) e))
one_arrow f args (several g h gs) = refl

-- each factor is the only one of its type
abbrev AreAlone : List Factor → Type 0
AreAlone fs = concatenated (map factors (map type_of_factor fs)) ≡ fs

keeps_product : (ts : List Ty) → factors (product ts) ≡ concatenated (map factors ts)
keeps_product [] = factors_tup []
keeps_product (t ∷ []) = sym (append-nil (factors t))
keeps_product (t ∷ u ∷ ts) = factors_tup (t ∷ u ∷ ts)

mutual
  alone : {fs : List Factor} → AreFactors fs → AreAlone fs
  alone none = refl
  alone (more {f} n others) = ap₂ ◌++◌ (ap factors (type_out f) ∙ alone_layer n ∙ ap (λ g. g ∷ []) (roll-out-Factor f)) (alone others)

  alone_layer : {x : Factor-F Factor} → IsFactor x → factors (type_layer x) ≡ roll-Factor x ∷ []
  alone_layer (atom t a) = atom_alone t (out-Ty t) refl a ∙ ap (λ g. g ∷ []) (sym (rolls-Atom t))
  alone_layer (arrow {f} {others = args} {results} n m l) =
      factors_arrow (type_of_factors (f ∷ args)) (type_of_factors results)
      ∙ ap₂ factors_of_arrow (keeps_product (map type_of_factor (f ∷ args)) ∙ alone n) (keeps_product (map type_of_factor results) ∙ alone m)
      ∙ one_arrow f args l ∙ ap (λ g. g ∷ []) (sym (rolls-Arr (f ∷ args) results))

pub factors_kept : (fs : List Factor) → AreFactors fs → factors (type_of_factors fs) ≡ fs
factors_kept fs are = keeps_product (map type_of_factor fs) ∙ alone are
