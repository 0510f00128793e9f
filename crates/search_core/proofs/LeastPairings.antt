-- The least pairing, read from its word.
use Rattle.std.proofs.Common.{◌≡◌, ℕ, List, length, Option, Some, None, refl, sym, ap, ◌∙◌, subst}
use Rattle.type_core.specs.declared.coordinate.Coordinate.{Coordinate}
use Rattle.type_core.specs.declared.names.TypeName.{TypeName}
use Rattle.type_core.specs.declared.ty.Scheme.{Scheme}
use Rattle.type_core.specs.declared.ty.VarId.{VarId}
use Rattle.type_core.specs.Coordinates.{coordinates}
use Rattle.type_core.specs.Renaming.{Renaming}
use Rattle.iso_axioms.specs.SchemeEquality.{AreEqualIn}
use Rattle.iso_axioms.specs.Theory.{IsIsomorphic}
use Rattle.iso_normal.specs.Consistency.{IsConsistent, variables_among}
use Rattle.iso_normal.specs.declared.pair_tree.PairTree.{PairTree}
use Rattle.iso_normal.specs.PairTrees.{word_of}
use Rattle.iso_normal.specs.Shapes.{HasShape, nodes_of}
use Rattle.iso_normal.proofs.WordsTell.{shape_of, word_length, word_tells}
use Rattle.coord_match.specs.LeastPairing.{IsLeast}
use Rattle.coord_match.specs.Names.{IsFirst, Tells}
use Rattle.search_core.specs.declared.answer.Mode.{Mode}
use Rattle.search_core.specs.declared.comparing.Comparison.TheVariants as comparison
use Rattle.search_core.specs.declared.comparing.Found.TheVariants as found
use Rattle.search_core.specs.declared.converting.Paired.{Paired}
use Rattle.search_core.specs.Comparing.{IsComparison}
use Rattle.search_core.specs.declared.answer.Mode.TheVariants as mode
use Rattle.search_core.specs.Converters.{ArePartners, IsLeastWith}
use Rattle.search_core.specs.Search.{Finds}

module _ {own wanted : List Coordinate} {word letters : List ℕ} {names : List (Option VarId)}
    (first : IsFirst own wanted word names) (same : letters ≡ word) where
  module _ (a b : Scheme) (of_a : own ≡ coordinates a.body) (of_b : wanted ≡ coordinates b.body) where
    pub is_consistent : (r : Renaming) × (p : PairTree) × IsConsistent r (coordinates a.body) (coordinates b.body) p
    is_consistent =
        let own_is = subst (λ cs. IsConsistent first.0 cs wanted first.1) of_a first.2.consistent in
        (first.0, first.1, subst (λ ds. IsConsistent first.0 (coordinates a.body) ds first.1) of_b own_is)

    pub is_least : (q : PairTree) → HasShape own q → word_of q ≡ letters → IsLeastWith a b names q
    is_least q has is =
        let r : Renaming = first.0 in
        let p : PairTree = first.1 in
        let tree : p ≡ q = word_tells (shape_of first.2.consistent.pairs) has (sym (is ∙ same ∙ first.3)) in
        let least : IsLeast r (coordinates a.body) (coordinates b.body) p =
        subst (λ ds. IsLeast r (coordinates a.body) ds p) of_b (subst (λ cs. IsLeast r cs wanted p) of_a first.2) in
        let tells : ArePartners names r a = subst (λ cs. Tells names r (variables_among cs)) of_a first.4 in
        (r, subst (IsLeast r (coordinates a.body) (coordinates b.body)) tree least, tells)

  -- the word has the length of a pairing's
  pub has_length : length letters ≡ nodes_of own
  has_length = ap length (same ∙ first.3) ∙ word_length (shape_of first.2.consistent.pairs)

-- in mode iso
pub in_iso : (names : List TypeName) (m : Mode) (a b : Scheme) (p : Paired) → m ≡ mode.Iso
    → AreEqualIn IsIsomorphic a b → IsLeastWith a b p.partners p.tree
    → IsComparison names m a b (comparison.Found (found.Paired p))
in_iso names m a b p is equal least =
    subst (λ m. IsComparison names m a b (comparison.Found (found.Paired p))) (sym is) (equal, least)

pub equal_in_iso : (names : List TypeName) (m : Mode) (a b : Scheme) → m ≡ mode.Iso → Finds names m a b
    → AreEqualIn IsIsomorphic a b
equal_in_iso names m a b is equal = subst (λ m. Finds names m a b) is equal
