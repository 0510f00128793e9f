-- The instance that matches the query, and its pairing with it.
use Rattle.std.proofs.Common.{◌≡◌, ◌≢◌, ◌↔◌, ℕ, List, length, Option, Some, None, Result, Ok, Err, IfOk, IfSome, sym, ap, ◌∙◌, subst}
use Rattle.sig_base.specs.declared.no_memory.NoMemory.{NoMemory}
use Rattle.type_core.specs.declared.coordinate.Coordinate.{Coordinate}
use Rattle.type_core.specs.declared.ty.Ty.{Ty}
use Rattle.type_core.specs.Coordinates.{coordinates}
use Rattle.iso_normal.specs.declared.pair_tree.PairTree.{PairTree}
use Rattle.iso_normal.specs.PairTrees.{word_of}
use Rattle.iso_normal.specs.Shapes.{HasShape, nodes_of}
use Rattle.iso_normal.proofs.WordsTell.{shape_of, word_length, word_tells}
use Rattle.coord_match.specs.LeastPairing.{IsLeastIdentical}

module _ {own wanted : List Coordinate} (a b : Ty) (of_a : own ≡ coordinates a) (of_b : wanted ≡ coordinates b) where
  module _ {word letters : List ℕ} (first : (p : PairTree) × IsLeastIdentical own wanted p × (word ≡ word_of p)) (same : letters ≡ word) where
    -- the tree of the word is the least
    least_of : (q : PairTree) → HasShape own q → word_of q ≡ letters → IsLeastIdentical (coordinates a) (coordinates b) q
    least_of q has is =
        let tree : first.0 ≡ q = word_tells (shape_of first.1.pairs) has (sym (is ∙ same ∙ first.2)) in
        subst (IsLeastIdentical (coordinates a) (coordinates b)) tree
        (subst (λ ds. IsLeastIdentical (coordinates a) ds first.0) of_b (subst (λ cs. IsLeastIdentical cs wanted first.0) of_a first.1))

    pub least_read : (read : Result (Option PairTree) NoMemory) → IfOk read (λ found. IfSome found (HasShape own))
        → IfOk read (λ found. IfSome found (λ p. word_of p ≡ letters))
        → IfOk read (λ found. IfSome found (IsLeastIdentical (coordinates a) (coordinates b)))
    least_read (Err e) has is = tt
    least_read (Ok None) has is = tt
    least_read (Ok (Some q)) has is = least_of q has is

    pub is_read : (P : Type 0) (read : Result (Option PairTree) NoMemory)
        → IfOk read (λ found. (found ≡ None) ↔ (length letters ≢ nodes_of own)) → IfOk read (λ found. found ≡ None → P)
    is_read P (Err e) none = tt
    is_read P (Ok found) none = λ e. absurd (none.0 e (ap length (same ∙ first.2) ∙ word_length (shape_of first.1.pairs)))
