-- When two lists of factors agree: they are equal as nested multisets.
use Rattle.std.specs.Prelude.{List, [], ◌∷◌}
use Rattle.type_core.specs.declared.ty.Ty.{Ty}
use Rattle.iso_normal.specs.declared.factor.Factor.{Factor}
use Rattle.iso_normal.specs.declared.factor.Factor.TheOpen.{Factor-F, Atom, Arr}
use Rattle.iso_normal.specs.declared.factor.Factor.TheViews.{out-Factor}

-- f stands in the first list, and the second is the first without it
pub data Takes (f : Factor) : List Factor → List Factor → Type 0 where
  first : (rest : List Factor) → Takes f (f ∷ rest) rest
  later : {all rest : List Factor} (g : Factor) → Takes f all rest → Takes f (g ∷ all) (g ∷ rest)

mutual
  -- each factor of the first list has one of its own in the second that is alike, and none is left there
  pub data Agree : List Factor → List Factor → Type 0 where
    none : Agree [] []
    more : {f g : Factor} {fs gs rest : List Factor} → Takes g gs rest → AreAlike (out-Factor f) (out-Factor g) → Agree fs rest → Agree (f ∷ fs) gs

  -- one atom, or arrows whose arguments agree and whose results agree
  pub data AreAlike : Factor-F Factor → Factor-F Factor → Type 0 where
    atoms : (t : Ty) → AreAlike (Atom t) (Atom t)
    arrows : {xs ys ps qs : List Factor} → Agree xs ys → Agree ps qs → AreAlike (Arr xs ps) (Arr ys qs)
