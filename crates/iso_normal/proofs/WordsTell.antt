-- The order of words, and the trees that they tell.
use Rattle.std.proofs.Common.{◌≡◌, ◌⊎◌, inl, inr, ℕ, List, [], ◌∷◌, ◌++◌, length, map, refl, sym, ap, ap₂, ◌∙◌, append_assoc, arith, subst}
use Rattle.std.proofs.lemmas.List.{length-append}
use Rattle.std.proofs.lemmas.Bool.{cases_lt}
use Rattle.type_core.specs.declared.coordinate.Coordinate.{Coordinate}
use Rattle.type_core.specs.declared.ty.Ty.{Ty}
use Rattle.type_core.specs.Lists.{concatenated}
use Rattle.iso_normal.specs.declared.pair_tree.PairTree.{PairTree}
use Rattle.iso_normal.specs.declared.pair_tree.Entry.{Entry}
use Rattle.iso_normal.specs.Pairings as pairing
use Rattle.iso_normal.specs.Pairings.{PairEach, Pairs, pairs}
use Rattle.iso_normal.specs.PairTrees.{args_of, entry, pair_tree, word_of}
use Rattle.iso_normal.specs.Shapes.{HasShape, HaveShapes, more, nodes_of, none, shape}
use Rattle.iso_normal.specs.WordOrder.{IsNotAfter, ends, less, same}
use Rattle.iso_normal.proofs.ReadWords.{entry_word, nodes_more, nodes_none, word_is}
use Rattle.iso_normal.proofs.TreeParts.{entry_whole, tree_whole}

-- a pairing has the shape of its coordinates
module _ {Heads : Ty → Ty → Type 0} where
  mutual
    pub shape_of : {c d : List Coordinate} {p : PairTree} → Pairs Heads c d p → HasShape c p
    shape_of (pairs l different each) = shape (shapes_of each)

    shapes_of : {c d : List Coordinate} {es : List Entry} → PairEach Heads c d es → HaveShapes c es
    shapes_of pairing.none = none
    shapes_of (pairing.more at head inner others) = more (shape_of inner) (shapes_of others)

abbrev words : List Entry → List ℕ
words es = concatenated (map entry_word es)

-- a word has a letter for each coordinate at all depths
mutual
  pub word_length : {c : List Coordinate} {p : PairTree} → HasShape c p → length (word_of p) ≡ nodes_of c
  word_length {p} (shape each) = ap length (word_is p) ∙ words_length each

  words_length : {c : List Coordinate} {es : List Entry} → HaveShapes c es → length (words es) ≡ nodes_of c
  words_length none = sym nodes_none
  words_length (more {a} {c} {e} {entries} inner others) =
      omega (arith, length-append (word_of (args_of e)) (words entries), word_length inner, words_length others, nodes_more a c)

-- trees of one shape with one word are one
pub next_letter : {j k : ℕ} {v w : List ℕ} → j ∷ v ≡ k ∷ w → j ≡ k
next_letter e = cc e

pub next_letters : {j k : ℕ} {v w : List ℕ} → j ∷ v ≡ k ∷ w → v ≡ w
next_letters e = cc e

apart : (u v w x y z : List ℕ) → (u ++ v) ++ w ≡ (x ++ y) ++ z → u ++ (v ++ w) ≡ x ++ (y ++ z)
apart u v w x y z e = sym (append_assoc u v w) ∙ e ∙ append_assoc x y z

mutual
  one_tree : {c : List Coordinate} {p q : PairTree} → HasShape c p → HasShape c q → (v w : List ℕ) → word_of p ++ v ≡ word_of q ++ w → (p ≡ q) × (v ≡ w)
  one_tree {p} {q} (shape each) (shape others) v w e =
      let found = one_list each others v w (ap (λ u. u ++ v) (sym (word_is p)) ∙ e ∙ ap (λ u. u ++ w) (word_is q)) in
      (sym (tree_whole p) ∙ ap pair_tree found.0 ∙ tree_whole q, found.1)

  one_list : {c : List Coordinate} {es fs : List Entry} → HaveShapes c es → HaveShapes c fs → (v w : List ℕ) → words es ++ v ≡ words fs ++ w → (es ≡ fs) × (v ≡ w)
  one_list none none v w e = (refl, e)
  one_list (more {e = f} {entries = es} inner others) (more {e = g} {entries = fs} inner_too others_too) v w e =
      let first = one_tree inner inner_too (words es ++ v) (words fs ++ w) (apart (word_of (args_of f)) (words es) v (word_of (args_of g)) (words fs) w (next_letters e)) in
      let rest = one_list others others_too v w first.1 in
      (ap₂ ◌∷◌ (sym (entry_whole f) ∙ ap₂ entry (next_letter e) first.0 ∙ entry_whole g) rest.0, rest.1)

pub word_tells : {c : List Coordinate} {p q : PairTree} → HasShape c p → HasShape c q → word_of p ≡ word_of q → p ≡ q
word_tells s t e = (one_tree s t [] [] (ap (λ w. w ++ []) e)).0

-- the order
pub not_after_itself : (v : List ℕ) → IsNotAfter v v
not_after_itself [] = ends []
not_after_itself (k ∷ v) = same k (not_after_itself v)

neither_after : {v w x y : List ℕ} → IsNotAfter v w → IsNotAfter x y → v ≡ y → w ≡ x → v ≡ w
neither_after (ends w) (ends y) e f = sym f
neither_after (ends w) (less x y m) e f = absurd (cc e)
neither_after (ends w) (same j m) e f = absurd (cc e)
neither_after (less v w l) (ends y) e f = absurd (cc f)
neither_after (less v w l) (less x y m) e f = absurd (omega (arith, l, m, next_letter e, next_letter f))
neither_after (less v w l) (same j m) e f = absurd (omega (arith, l, next_letter e, next_letter f))
neither_after (same k n) (ends y) e f = absurd (cc f)
neither_after (same k n) (less x y m) e f = absurd (omega (arith, m, next_letter e, next_letter f))
neither_after (same k n) (same j m) e f = ap (λ w. k ∷ w) (neither_after n m (next_letters e) (next_letters f))

pub either_not_after : {v w : List ℕ} → IsNotAfter v w → IsNotAfter w v → v ≡ w
either_not_after n m = neither_after n m refl refl

pub not_after_both : {u v w : List ℕ} → IsNotAfter u v → IsNotAfter v w → IsNotAfter u w
not_after_both (ends v) q = ends _
not_after_both (less u v l) (less x w m) = less u w (omega (arith, l, m))
not_after_both (less u v l) (same {w} k n) = less u w l
not_after_both (same {v = u} k n) (less v w m) = less u w m
not_after_both (same k n) (same _ m) = same k (not_after_both n m)

next_not_after : (j k : ℕ) (v w : List ℕ) → j ≡ k → IsNotAfter v w ⊎ IsNotAfter w v → IsNotAfter (j ∷ v) (k ∷ w) ⊎ IsNotAfter (k ∷ w) (j ∷ v)
next_not_after j k v w e later = elim later [
  | inl n ↦ inl (subst (λ i. IsNotAfter (j ∷ v) (i ∷ w)) e (same j n))
  | inr n ↦ inr (subst (λ i. IsNotAfter (i ∷ w) (j ∷ v)) e (same j n))
]

pub one_not_after : (v w : List ℕ) → IsNotAfter v w ⊎ IsNotAfter w v
one_not_after [] w = inl (ends w)
one_not_after (j ∷ v) [] = inr (ends (j ∷ v))
one_not_after (j ∷ v) (k ∷ w) = elim (cases_lt j k) [
  | inl l ↦ inl (less v w l)
  | inr m ↦ elim (cases_lt k j) [ inl l ↦ inr (less w v l) | inr n ↦ next_not_after j k v w (omega (arith, m, n)) (one_not_after v w) ]
]
