-- Chains of arrows.
use Rattle.std.specs.Prelude.{List, [], ◌∷◌}
use Rattle.type_core.specs.declared.ty.Ty.{Ty}
use Rattle.type_core.specs.declared.ty.Ty.TheVariants as ty

-- an arrow from each side to what stands after it
abbrev pub arrows_from : Ty → List Ty → Ty
arrows_from side [] = side
arrows_from side (next ∷ sides) = ty.Arrow side (arrows_from next sides)

-- the sides with arrows between them, grouped to the right; no sides, which no type has, are the tuple of none
abbrev pub arrows : List Ty → Ty
arrows [] = ty.Tup []
arrows (side ∷ sides) = arrows_from side sides
