-- Direct converters are the long forms of the plain ones, and short converters are inverse.
use Rattle.std.proofs.Common.{◌≡◌, ◌+◌, ◌<◌, true, List, [], sym, ap, subst, arith}
use Rattle.type_core.specs.declared.ty.Ty.{Ty}
use Rattle.type_core.specs.declared.ty.Ty.TheVariants as ty
use Rattle.type_core.specs.Coordinates.{coordinates}
use Rattle.type_core.specs.Types.{IsType}
use Rattle.iso_normal.specs.declared.pair_tree.PairTree.{PairTree}
use Rattle.iso_normal.specs.Pairings.{Pairs}
use Rattle.iso_normal.specs.PairTrees.{inverse}
use Rattle.iso_normal.proofs.InversePairs.{inverse_pairs, pairs_permuted}
use Rattle.conv_terms.specs.declared.term.Term.{Term}
use Rattle.conv_terms.specs.declared.term.Term.TheVariants as term
use Rattle.conv_terms.specs.LongForm.{IsLongForm}
use Rattle.conv_terms.specs.Contraction.{IsContraction}
use Rattle.conv_terms.proofs.RedexFree.{is_redex_free}
use Rattle.conv_terms.proofs.Contractions.{contraction_of, one_contraction}
use Rattle.conv_terms.proofs.LongForms.{long_form_free, one_long_form}
use Rattle.conv_typing.specs.Typing.{HasType}
use Rattle.conv_typing.specs.Conversion.{Converts}
use Rattle.conv_typing.specs.InversePair.{IsInversePair}
use Rattle.conv_typing.proofs.Contractions.{contraction_converts}
use Rattle.conv_typing.proofs.Existence.{long_form_of}
use Rattle.conv_typing.proofs.InversePairs.{inverse_pair_converted}
use Rattle.conv_typing.proofs.Kept.{converts_typed}
use Rattle.conv_typing.proofs.LongForms.{long_form_converts}
use Rattle.conv_plain.specs.SplitJoin.{join, split}
use Rattle.conv_plain.specs.Moving.{moved, moved_back}
use Rattle.conv_plain.specs.PlainConverter.{plain_converter}
use Rattle.conv_plain.proofs.Inverting.{moved_by_the_inverse}
use Rattle.conv_plain.proofs.PlainConverters.{plain_inverse}
use Rattle.conv_build.specs.ShortConverter.{IsShortConverter}
use Rattle.conv_build.specs.direct.References.{Hole, references}
use Rattle.conv_build.specs.direct.LongSides.{joined}
use Rattle.conv_build.specs.direct.HoleMoves.{hole_moves}
use Rattle.conv_build.specs.direct.DirectConverter.{direct_converter, direct_converter_back}
use Rattle.conv_build.proofs.Reduction.{Reduces, long_form_reduces}
use Rattle.conv_build.proofs.Confluence.{one_result}
use Rattle.conv_build.proofs.Equations.{Form, form_of}
use Rattle.conv_build.proofs.Reading.{ActEach, reads_variable, split_length}
use Rattle.conv_build.proofs.Joining.{joins}
use Rattle.conv_build.proofs.Sending.{sends}
use Rattle.conv_build.proofs.Neutral.{direct_back_free, direct_free}

-- a function that joins terms which act as holes
function_reduces : (a b : Ty) → Form b → (es : List Term) (holes : List Hole) → ActEach 1 (coordinates b) es holes → Reduces 0 (term.Lam a (join b 1 es)) (term.Lam a (joined b 1 holes))
function_reduces a b f es holes k = let one : 1 ≡ 0 + 1 = omega arith in Reduces.lam a (subst (λ n. Reduces n (join b 1 es) (joined b 1 holes)) one (joins f 1 es holes k))

-- a typed term comes to no term without redex but its long form
long_form_is : (c : Ty) (t u : Term) → HasType [] t c → Reduces 0 t u → is_redex_free u ≡ true → IsLongForm 0 t u
long_form_is c t u k reduces free =
    let (long, is) = long_form_of [] c t k in
    subst (IsLongForm 0 t) (one_result 0 t long u (long_form_reduces is) reduces (long_form_free 0 t long is) free) is

module _ (a b : Ty) (p : PairTree) (ka : IsType a) (kb : IsType b) (k : Pairs ◌≡◌ (coordinates a) (coordinates b) p) where
  none_less : 0 < 1
  none_less = omega arith

  reduces : Reduces 0 (plain_converter a b p) (direct_converter a b p)
  reduces = function_reduces a b (form_of b kb) (moved p (coordinates a) (coordinates b) 1 (split a 1 (term.Var 0))) ((hole_moves p).forth (references 0 a))
      ((sends k).forth 1 (references 0 a) (split a 1 (term.Var 0)) (reads_variable 1 0 a none_less (form_of a ka)))

  back_is_plain : term.Lam b (join a 1 (moved_back p (coordinates a) (coordinates b) 1 (split b 1 (term.Var 0)))) ≡ plain_converter b a (inverse p)
  back_is_plain = ap (λ es. term.Lam b (join a 1 es)) (moved_by_the_inverse k 1 (split b 1 (term.Var 0)) (split_length (form_of b kb) 1 (term.Var 0)))

  reduces_back : Reduces 0 (plain_converter b a (inverse p)) (direct_converter_back a b p)
  reduces_back = subst (λ t. Reduces 0 t (direct_converter_back a b p)) back_is_plain
      (function_reduces b a (form_of a ka) (moved_back p (coordinates a) (coordinates b) 1 (split b 1 (term.Var 0))) ((hole_moves p).back (references 0 b))
      ((sends k).back 1 (references 0 b) (split b 1 (term.Var 0)) (reads_variable 1 0 b none_less (form_of b kb))))

  pub direct_is_long : IsLongForm 0 (plain_converter a b p) (direct_converter a b p)
  direct_is_long = long_form_is (ty.Arrow a b) _ _ (plain_inverse a b p ka kb k).to_typed reduces (direct_free a b p (pairs_permuted ◌≡◌ k))

  pub direct_back_is_long : IsLongForm 0 (plain_converter b a (inverse p)) (direct_converter_back a b p)
  direct_back_is_long = long_form_is (ty.Arrow b a) _ _ (plain_inverse a b p ka kb k).from_typed reduces_back (direct_back_free a b p (pairs_permuted ◌≡◌ k))

pub direct_turned : (a b : Ty) (p : PairTree) → IsType a → IsType b → Pairs ◌≡◌ (coordinates a) (coordinates b) p → direct_converter_back a b p ≡ direct_converter b a (inverse p)
direct_turned a b p ka kb k =
    one_long_form 0 (plain_converter b a (inverse p)) _ _ (direct_back_is_long a b p ka kb k) (direct_is_long b a (inverse p) kb ka (inverse_pairs ◌≡◌ ◌≡◌ (λ h k e. sym e) k))

-- what a term's long form contracts to
pub short_converts : (c : Ty) (t long short : Term) → HasType [] t c → IsLongForm 0 t long → IsContraction 0 long short → Converts [] c t short
short_converts c t long short k l m =
    let first = long_form_converts [] c t long k l in
    Converts.chain first (contraction_converts [] c long short (converts_typed first).1 m)

module _ (a b : Ty) (p : PairTree) (to from : Term) (ka : IsType a) (kb : IsType b) (k : Pairs ◌≡◌ (coordinates a) (coordinates b) p) (l : IsShortConverter a b p to) (m : IsShortConverter b a (inverse p) from) where
  plain_pair : IsInversePair a b (plain_converter a b p) (plain_converter b a (inverse p))
  plain_pair = plain_inverse a b p ka kb k

  pub short_inverse : IsInversePair a b to from
  short_inverse = inverse_pair_converted a b _ _ to from plain_pair
      (short_converts (ty.Arrow a b) _ l.0 to plain_pair.to_typed l.1 l.2) (short_converts (ty.Arrow b a) _ m.0 from plain_pair.from_typed m.1 m.2)

pub one_short : (a b : Ty) (p : PairTree) (t u : Term) → IsShortConverter a b p t → IsShortConverter a b p u → t ≡ u
one_short a b p t u k l = one_contraction 0 l.0 t u (subst (λ long. IsContraction 0 long t) (one_long_form 0 (plain_converter a b p) k.0 l.0 k.1 l.1) k.2) l.2

-- what the direct converters contract to are the short converters
module _ (a b : Ty) (p : PairTree) (ka : IsType a) (kb : IsType b) (k : Pairs ◌≡◌ (coordinates a) (coordinates b) p) where
  pub contracted_is_short : (to : Term) → IsContraction 0 (direct_converter a b p) to → IsShortConverter a b p to
  contracted_is_short to l = (direct_converter a b p, direct_is_long a b p ka kb k, l)

  pub contracted_back_is_short : (from : Term) → IsContraction 0 (direct_converter_back a b p) from → IsShortConverter b a (inverse p) from
  contracted_back_is_short from l = (direct_converter_back a b p, direct_back_is_long a b p ka kb k, l)

pub short_exists : (a b : Ty) (p : PairTree) → IsType a → IsType b → Pairs ◌≡◌ (coordinates a) (coordinates b) p → (t : Term) × IsShortConverter a b p t
short_exists a b p ka kb k = let (t, is) = contraction_of 0 (direct_converter a b p) in (t, contracted_is_short a b p ka kb k t is)
