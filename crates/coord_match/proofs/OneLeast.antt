-- There is one least pairing.
use Rattle.std.proofs.Common.{◌≡◌, List, true, sym, subst}
use Rattle.type_core.specs.declared.coordinate.Coordinate.{Coordinate}
use Rattle.type_core.specs.declared.ty.VarId.{VarId}
use Rattle.type_core.specs.Renaming.{Renaming}
use Rattle.type_core.specs.Variables.{occurs}
use Rattle.iso_normal.specs.declared.pair_tree.PairTree.{PairTree}
use Rattle.iso_normal.specs.Consistency.{Turns, variables_among}
use Rattle.iso_normal.specs.Pairings.{Pairs}
use Rattle.iso_normal.proofs.CoordinateVariables.{pairs_fix}
use Rattle.iso_normal.proofs.WordsTell.{either_not_after, shape_of, word_tells}
use Rattle.coord_match.specs.LeastPairing.{IsLeast, IsLeastIdentical}

module _ {r s : Renaming} {a b : List Coordinate} {p q : PairTree} (first : IsLeast r a b p) (second : IsLeast s a b q) where
  pub one_pairing : p ≡ q
  one_pairing = word_tells (shape_of first.consistent.pairs) (shape_of second.consistent.pairs)
      (either_not_after (first.least s q second.consistent) (second.least r p first.consistent))

  pub one_renaming : (v : VarId) → occurs v (variables_among a) ≡ true → r v ≡ s v
  one_renaming = pairs_fix r s first.consistent.pairs (subst (Pairs (Turns s) a b) (sym one_pairing) second.consistent.pairs)

pub one_identical : {a b : List Coordinate} {p q : PairTree} → IsLeastIdentical a b p → IsLeastIdentical a b q → p ≡ q
one_identical {p} {q} first second = word_tells (shape_of first.pairs) (shape_of second.pairs) (either_not_after (first.least q second.pairs) (second.least p first.pairs))
