-- The unit type, and the pairing of its coordinates, of which there are none.
use Rattle.std.proofs.Common.{◌≡◌, ◌≢◌, ℕ, List, [], refl, sym, ap, ◌∙◌, subst, arith}
use Rattle.type_core.specs.declared.ty.Ty.{Ty}
use Rattle.type_core.specs.declared.ty.Ty.TheVariants as ty
use Rattle.type_core.specs.Coordinates.{coordinates}
use Rattle.type_core.specs.Types.{IsType}
use Rattle.type_core.specs.ValidLibrary.{AreDistinct}
use Rattle.type_core.proofs.Trees.{coordinates_tup}
use Rattle.type_core.proofs.TypeTests.{tuple_is_type}
use Rattle.iso_normal.specs.declared.pair_tree.Entry.{Entry}
use Rattle.iso_normal.specs.Pairings.{PairEach, Pairs, pairs, none}
use Rattle.iso_normal.specs.PairTrees.{pair_tree, places_of}
use Rattle.iso_normal.proofs.Distinct.{distinct}
use Rattle.iso_normal.proofs.TreeParts.{tree_entries}

not_one : ◌≢◌ {A = ℕ} 0 1
not_one e = omega (arith, e)

pub unit_is_type : (t : Ty) → t ≡ ty.Tup [] → IsType t
unit_is_type t is = subst IsType (sym is) (tuple_is_type [] not_one refl)

nothing_pairs : Pairs ◌≡◌ [] [] (pair_tree [])
nothing_pairs = pairs refl (subst (λ es. AreDistinct (places_of es)) (sym (tree_entries [])) (distinct [] tt)) (subst (λ es. PairEach ◌≡◌ [] [] es) (sym (tree_entries [])) none)

no_coordinates : (t : Ty) → t ≡ ty.Tup [] → coordinates t ≡ []
no_coordinates t is = ap coordinates is ∙ coordinates_tup []

pub units_pair : (a b : Ty) (es : List Entry) → a ≡ ty.Tup [] → b ≡ ty.Tup [] → es ≡ [] → Pairs ◌≡◌ (coordinates a) (coordinates b) (pair_tree es)
units_pair a b es is_a is_b is =
    subst (λ cs. Pairs ◌≡◌ cs (coordinates b) (pair_tree es)) (sym (no_coordinates a is_a))
    (subst (λ ds. Pairs ◌≡◌ [] ds (pair_tree es)) (sym (no_coordinates b is_b))
    (subst (λ es. Pairs ◌≡◌ [] [] (pair_tree es)) (sym is) nothing_pairs))
