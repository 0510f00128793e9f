-- The short converter of a pairing.
use Rattle.type_core.specs.declared.ty.Ty.{Ty}
use Rattle.iso_normal.specs.declared.pair_tree.PairTree.{PairTree}
use Rattle.conv_terms.specs.declared.term.Term.{Term}
use Rattle.conv_terms.specs.LongForm.{IsLongForm}
use Rattle.conv_terms.specs.Contraction.{IsContraction}
use Rattle.conv_plain.specs.PlainConverter.{plain_converter}

-- the term is what the long form of the plain converter from a to b along p contracts to
abbrev pub IsShortConverter : Ty → Ty → PairTree → Term → Type 0
IsShortConverter a b p t = (long : Term) × IsLongForm 0 (plain_converter a b p) long × IsContraction 0 long t
