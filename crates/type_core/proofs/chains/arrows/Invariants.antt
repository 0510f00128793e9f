use Rattle.std.proofs.Common.{◌≡◌, [], ◌∷◌, ◌++◌, length}
use Rattle.type_core.specs.Arrows.{arrows}
use Rattle.type_core.proofs.chains.arrows.Given as goal

abbrev pub invariant-sides : goal.invariant-sides
invariant-sides l = arrows (l.sides ++ l.to ∷ []) ≡ arrows l.fn.sides

abbrev pub decreases-sides : goal.decreases-sides
decreases-sides l = length l.sides
