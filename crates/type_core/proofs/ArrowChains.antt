-- Chains of arrows.
use Rattle.std.proofs.Common.{◌≡◌, ℕ, ◌+◌, ◌-◌, ◌==◌, true, false, true≢false, min, List, [], ◌∷◌, ◌++◌, map, length, refl, sym, ap, ◌∙◌, arith}
use Rattle.std.proofs.lemmas.Bool.{eq-eqb, eqb-true}
use Rattle.type_core.specs.declared.ty.Ty.{Ty}
use Rattle.type_core.specs.declared.ty.Ty.TheVariants as ty
use Rattle.type_core.specs.Lists.{sum_of}
use Rattle.type_core.specs.Size.{size_of}
use Rattle.type_core.proofs.Trees.{size_arrow, size_tup}
use Rattle.type_core.specs.Arrows.{arrows, arrows_from}

last_from : (side : Ty) (sides : List Ty) (a b : Ty) → arrows_from side ((sides ++ a ∷ []) ++ b ∷ []) ≡ arrows_from side (sides ++ ty.Arrow a b ∷ [])
last_from side [] a b = refl
last_from side (next ∷ sides) a b = ap (ty.Arrow side) (last_from next sides a b)

-- the last two sides are one arrow
pub arrows_last : (sides : List Ty) (a b : Ty) → arrows ((sides ++ a ∷ []) ++ b ∷ []) ≡ arrows (sides ++ ty.Arrow a b ∷ [])
arrows_last [] a b = refl
arrows_last (side ∷ sides) a b = last_from side sides a b

-- each arrow is a node
pub size_arrows_from : (side : Ty) (sides : List Ty) → size_of (arrows_from side sides) ≡ size_of side + (sum_of (map size_of sides) + length sides)
size_arrows_from side [] = omega arith
size_arrows_from side (next ∷ sides) = omega (arith, size_arrow side (arrows_from next sides), size_arrows_from next sides)

-- no sides are one node
pub no_sides : (sides : List Ty) → (length sides == 0) ≡ true → 1 ≡ min (size_of (arrows sides)) 0xffff_ffff_ffff_ffff
no_sides [] e = omega (arith, size_tup [])
no_sides (side ∷ sides) e = absurd (omega (arith, eqb-true (length (side ∷ sides)) 0 e))

-- the nodes of a chain are those of its sides, and its arrows
pub chain_size : (sides : List Ty) (total between sum : ℕ) → (length sides == 0) ≡ false → total ≡ min (sum_of (map size_of sides)) 0xffff_ffff_ffff_ffff → between ≡ length sides - 1
    → sum ≡ min (total + between) 0xffff_ffff_ffff_ffff → sum ≡ min (size_of (arrows sides)) 0xffff_ffff_ffff_ffff
chain_size [] total between sum e t b s = absurd (true≢false (sym (eq-eqb 0 0 refl) ∙ e))
chain_size (side ∷ sides) total between sum e t b s = omega (arith, size_arrows_from side sides, t, b, s)
