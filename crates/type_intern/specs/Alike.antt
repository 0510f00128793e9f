-- Coordinates that are equal as nested multisets of arguments.
use Rattle.std.specs.Prelude.{◌≡◌, ◌⊎◌, List, [], ◌∷◌}
use Rattle.type_core.specs.declared.coordinate.Coordinate.{Coordinate}
use Rattle.type_core.specs.declared.ty.Ty.{Ty}
use Rattle.type_core.specs.Coordinates.{arguments_of, head_of}

-- x stands in the first list, and the second is the first without it
abbrev pub Takes : {A : Type 0} → A → List A → List A → Type 0
Takes {A} x [] rest = ⊥
Takes {A} x (y ∷ ys) rest = ((x ≡ y) × (rest ≡ ys)) ⊎ ((left : List A) × Takes x ys left × (rest ≡ y ∷ left))

mutual
  -- the heads are one after `seen`, and the arguments are equal as multisets
  pub data IsAlike (seen : Ty → Ty) : Coordinate → Coordinate → Type 0 where
    alike : {c d : Coordinate} → seen (head_of c) ≡ seen (head_of d) → AreAlike seen (arguments_of c) (arguments_of d)
        → IsAlike seen c d

  -- each of the first list has one of its own in the second that is alike, and none is left there
  pub data AreAlike (seen : Ty → Ty) : List Coordinate → List Coordinate → Type 0 where
    none : AreAlike seen [] []
    more : {c d : Coordinate} {cs ds rest : List Coordinate} → Takes d ds rest → IsAlike seen c d → AreAlike seen cs rest
        → AreAlike seen (c ∷ cs) ds
