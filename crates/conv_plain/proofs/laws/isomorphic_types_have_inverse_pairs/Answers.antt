use Rattle.std.proofs.Common.{refl}
use Rattle.type_core.specs.Coordinates.{coordinates}
use Rattle.iso_axioms.specs.Axioms.{IsoAxiom}
use Rattle.iso_axioms.proofs.Closed.{relates_types}
use Rattle.iso_normal.specs.PairTrees.{inverse}
use Rattle.iso_normal.proofs.Sound.{isomorphic_alike}
use Rattle.iso_normal.proofs.Paired.{paired}
use Rattle.conv_plain.specs.PlainConverter.{plain_converter}
use Rattle.conv_plain.proofs.PlainConverters.{plain_inverse}
use Rattle.conv_plain.proofs.laws.isomorphic_types_have_inverse_pairs.Goals as goal

pub returns : goal.returns
returns c = record {
  law = λ a b e.
      let types = relates_types IsoAxiom e in
      let (p, pairs) = paired (isomorphic_alike e) (coordinates a) (coordinates b) refl refl in
      (plain_converter a b p, plain_converter b a (inverse p), plain_inverse a b p types.0 types.1 pairs);
}
