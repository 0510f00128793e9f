-- The direct converters of a pairing.
use Rattle.type_core.specs.declared.ty.Ty.{Ty}
use Rattle.iso_normal.specs.declared.pair_tree.PairTree.{PairTree}
use Rattle.conv_terms.specs.declared.term.Term.{Term}
use Rattle.conv_terms.specs.declared.term.Term.TheVariants as term
use Rattle.conv_build.specs.direct.References.{references}
use Rattle.conv_build.specs.direct.LongSides.{joined}
use Rattle.conv_build.specs.direct.HoleMoves.{hole_moves}

-- fn (x : a) => the coordinates of x, moved along the pairing of those of a with those of b, joined at b
abbrev pub direct_converter : Ty → Ty → PairTree → Term
direct_converter a b p = term.Lam a (joined b 1 ((hole_moves p).forth (references 0 a)))

-- fn (y : b) => the coordinates of y, moved back along the pairing of those of a with those of b, joined at a
abbrev pub direct_converter_back : Ty → Ty → PairTree → Term
direct_converter_back a b p = term.Lam b (joined a 1 ((hole_moves p).back (references 0 b)))
