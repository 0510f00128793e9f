-- The plain converter of a pairing.
use Rattle.type_core.specs.declared.ty.Ty.{Ty}
use Rattle.type_core.specs.Coordinates.{coordinates}
use Rattle.iso_normal.specs.declared.pair_tree.PairTree.{PairTree}
use Rattle.conv_terms.specs.declared.term.Term.{Term}
use Rattle.conv_terms.specs.declared.term.Term.TheVariants as term
use Rattle.conv_plain.specs.Moving.{moved}
use Rattle.conv_plain.specs.SplitJoin.{join, split}

-- fn (x : a) => x, split at a, moved along the pairing of the coordinates of a with those of b, and joined at b
abbrev pub plain_converter : Ty → Ty → PairTree → Term
plain_converter a b p = term.Lam a (join b 1 (moved p (coordinates a) (coordinates b) 1 (split a 1 (term.Var 0))))
