-- What is known of the contracted direct converters, and the direct converter in two passes.
use Rattle.std.proofs.Common.{◌≡◌, List, [], sym, ap, ◌∙◌}
use Rattle.type_core.specs.declared.ty.Ty.{Ty}
use Rattle.type_core.specs.declared.ty.Ty.TheVariants as ty
use Rattle.type_core.specs.Coordinates.{coordinates}
use Rattle.type_core.specs.Types.{IsType}
use Rattle.iso_normal.specs.declared.pair_tree.PairTree.{PairTree}
use Rattle.iso_normal.specs.PairTrees.{inverse}
use Rattle.iso_normal.specs.Pairings.{Pairs}
use Rattle.iso_normal.proofs.InversePairs.{inverse_pairs}
use Rattle.conv_terms.specs.declared.term.Term.{Term}
use Rattle.conv_terms.specs.declared.term.Term.TheVariants as term
use Rattle.conv_terms.specs.Contraction.{IsContraction}
use Rattle.conv_terms.specs.ShortNormal.{IsShortNormal}
use Rattle.conv_typing.specs.Conversion.{Converts}
use Rattle.conv_typing.specs.InversePair.{IsInversePair}
use Rattle.conv_typing.proofs.ShortForms.{contracted_short}
use Rattle.conv_plain.specs.PlainConverter.{plain_converter}
use Rattle.conv_plain.proofs.PlainConverters.{plain_inverse}
use Rattle.conv_build.specs.ShortConverter.{IsShortConverter}
use Rattle.conv_build.specs.direct.References.{Reference, references}
use Rattle.conv_build.specs.direct.HoleMoves.{hole_moves}
use Rattle.conv_build.specs.direct.TwoPasses.{Leaf, built, filled, leaves}
use Rattle.conv_build.specs.direct.DirectConverter.{direct_converter}
use Rattle.conv_build.proofs.DirectConverters.{contracted_is_short, short_converts, short_inverse}
use Rattle.conv_build.proofs.TwoPasses.{fills}

pub direct_is : (a b : Ty) (p : PairTree) (rs : List Reference) (ls : List Leaf) (terms : List Term) (body r : Term) → rs ≡ references 0 a → ls ≡ leaves b 1 → terms ≡ filled ((hole_moves p).forth rs) ls → body ≡ built b terms → r ≡ term.Lam a body → r ≡ direct_converter a b p
direct_is a b p rs ls terms body r rs_are ls_are terms_are body_is is =
    is ∙ ap (term.Lam a) (body_is ∙ ap (built b) (terms_are ∙ ap (λ rs. filled ((hole_moves p).forth rs) ls) rs_are ∙ ap (filled ((hole_moves p).forth (references 0 a))) ls_are)
    ∙ sym (fills b 1 ((hole_moves p).forth (references 0 a))))

module _ (a b : Ty) (p : PairTree) (ka : IsType a) (kb : IsType b) (k : Pairs ◌≡◌ (coordinates a) (coordinates b) p) (to from : Term)
    (made : IsContraction 0 (direct_converter a b p) to × IsContraction 0 (direct_converter b a (inverse p)) from) where
  pub to_short : IsShortConverter a b p to
  to_short = contracted_is_short a b p ka kb k to made.0

  pub from_short : IsShortConverter b a (inverse p) from
  from_short = contracted_is_short b a (inverse p) kb ka (inverse_pairs ◌≡◌ ◌≡◌ (λ h k e. sym e) k) from made.1

  pub undo_each_other : IsInversePair a b to from
  undo_each_other = short_inverse a b p to from ka kb k to_short from_short

  plain_pair : IsInversePair a b (plain_converter a b p) (plain_converter b a (inverse p))
  plain_pair = plain_inverse a b p ka kb k

  pub both_short : IsShortNormal 0 to × IsShortNormal 0 from
  both_short = (
    contracted_short [] (ty.Arrow a b) _ to_short.0 to plain_pair.to_typed to_short.1 to_short.2,
    contracted_short [] (ty.Arrow b a) _ from_short.0 from plain_pair.from_typed from_short.1 from_short.2,
  )

  pub both_convert : Converts [] (ty.Arrow a b) (plain_converter a b p) to × Converts [] (ty.Arrow b a) (plain_converter b a (inverse p)) from
  both_convert = (
    short_converts (ty.Arrow a b) _ to_short.0 to plain_pair.to_typed to_short.1 to_short.2,
    short_converts (ty.Arrow b a) _ from_short.0 from plain_pair.from_typed from_short.1 from_short.2,
  )
