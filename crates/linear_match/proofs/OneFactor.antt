-- Lists of one factor.
use Rattle.std.proofs.Common.{◌≡◌, List, [], ◌∷◌, get_or, length, refl, sym, ap, subst, arith}
use Rattle.type_core.specs.declared.ty.Ty.{Ty}
use Rattle.iso_normal.specs.declared.factor.Factor.{Factor}
use Rattle.iso_normal.specs.declared.factor.Factor.TheVariants as factor
use Rattle.iso_normal.specs.declared.factor.Factor.TheVariants.{outs-Atom, outs-Arr}
use Rattle.iso_normal.specs.Factors.{IsNotOneArrow, nothing, one_atom, several}

pub single : (fs : List Factor) (f d : Factor) → length fs ≡ 1 → get_or fs 0 d ≡ f → fs ≡ f ∷ []
single [] f d e g = absurd (omega (arith, e))
single (h ∷ []) f d e g = ap (λ x. x ∷ []) g
single (h ∷ i ∷ fs) f d e g = absurd (omega (arith, e))

heads : {f g : Factor} → f ∷ [] ≡ g ∷ [] → f ≡ g
heads e = cc e

pub many_factors : (fs : List Factor) → (length fs ≡ 1 → ⊥) → IsNotOneArrow fs
many_factors [] d = nothing
many_factors (f ∷ []) d = absurd (d refl)
many_factors (f ∷ g ∷ fs) d = several f g fs

pub atom_alone : (fs : List Factor) (t : Ty) → fs ≡ factor.Atom t ∷ [] → IsNotOneArrow fs
atom_alone fs t e = subst IsNotOneArrow (sym e) (one_atom t (outs-Atom t))
