-- Words, and the entries that are read from them.
use Rattle.std.proofs.Common.{◌≡◌, ℕ, ◌+◌, ◌<◌, ◌≤◌, List, [], ◌∷◌, ◌++◌, map, length, take, drop, slice_index_or, refl, sym, ap, ap₂, ◌∙◌, subst, arith, append-nil}
use Rattle.std.proofs.lemmas.List.{append_assoc, drop_more, take-append-drop, take_more}
use Rattle.type_core.specs.declared.coordinate.Coordinate.{Coordinate}
use Rattle.type_core.specs.declared.coordinate.Coordinate.TheFolds.{fold-Coordinate, fold_out-Coordinate}
use Rattle.type_core.specs.Coordinates.{arguments_of}
use Rattle.type_core.specs.Lists.{concatenated, sum_of}
use Rattle.iso_normal.specs.declared.pair_tree.PairTree.{PairTree}
use Rattle.iso_normal.specs.declared.pair_tree.Entry.{Entry}
use Rattle.iso_normal.specs.declared.pair_tree.Entry.TheFolds.{fold-Entry, fold_out-PairTree, fold_out-Entry}
use Rattle.iso_normal.specs.PairTrees.{args_of, entries_of, entry, pair_tree, place_of, word_entry_step, word_of, word_step}
use Rattle.iso_normal.specs.Shapes.{HasShape, HaveShapes, more, node_step, nodes_of, none, shape}
use Rattle.iso_normal.proofs.TreeParts.{entry_args, entry_place, tree_entries}

-- nodes
pub nodes_none : nodes_of [] ≡ 0
unfolding nodes_of
nodes_none = refl

pub nodes_more : (c : Coordinate) (cs : List Coordinate) → nodes_of (c ∷ cs) ≡ 1 + nodes_of (arguments_of c) + nodes_of cs
unfolding nodes_of
nodes_more c cs = ap (λ n. n + sum_of (map (fold-Coordinate ℕ node_step) cs)) (fold_out-Coordinate ℕ node_step c)

pub nodes_append : (cs ds : List Coordinate) → nodes_of (cs ++ ds) ≡ nodes_of cs + nodes_of ds
nodes_append [] ds = omega (arith, nodes_none)
nodes_append (c ∷ cs) ds = omega (arith, nodes_more c (cs ++ ds), nodes_more c cs, nodes_append cs ds)

-- words
abbrev pub entry_word : Entry → List ℕ
entry_word e = place_of e ∷ word_of (args_of e)

word_entries : (es : List Entry) → map (fold-Entry (List ℕ) (List ℕ) word_entry_step word_step) es ≡ map entry_word es
unfolding word_of
word_entries [] = refl
word_entries (e ∷ es) = ap₂ ◌∷◌ (fold_out-Entry (List ℕ) (List ℕ) word_entry_step word_step e) (word_entries es)

pub word_is : (p : PairTree) → word_of p ≡ concatenated (map entry_word (entries_of p))
unfolding word_of
word_is p = fold_out-PairTree (List ℕ) (List ℕ) word_entry_step word_step p ∙ ap concatenated (word_entries (entries_of p))

pub word_made : (es : List Entry) → word_of (pair_tree es) ≡ concatenated (map entry_word es)
word_made es = word_is (pair_tree es) ∙ ap (λ es. concatenated (map entry_word es)) (tree_entries es)

words_append : (es : List Entry) (e : Entry) → concatenated (map entry_word (es ++ e ∷ [])) ≡ concatenated (map entry_word es) ++ entry_word e
words_append [] e = append-nil (entry_word e)
words_append (f ∷ es) e = ap (λ w. entry_word f ++ w) (words_append es e) ∙ sym (append_assoc (entry_word f) (concatenated (map entry_word es)) (entry_word e))

-- shapes
shapes_append : {cs : List Coordinate} {es : List Entry} (c : Coordinate) (e : Entry) → HaveShapes cs es → HasShape (arguments_of c) (args_of e) → HaveShapes (cs ++ c ∷ []) (es ++ e ∷ [])
shapes_append c e none s = more s none
shapes_append c e (more t others) s = more t (shapes_append c e others s)

-- the entries were read from the word, which is read up to `at`
pub record IsRead (cs : List Coordinate) (w : List ℕ) (from at : ℕ) (done : List Entry) : Type 0 where
  pub passed : at ≡ from + nodes_of cs
  pub shapes : HaveShapes cs done
  pub word : take from w ++ word_of (pair_tree done) ≡ take at w

pub read_none : (w : List ℕ) (from : ℕ) (done : List Entry) → done ≡ [] → IsRead [] w from from done
read_none w from done e =
    subst (IsRead [] w from from) (sym e) (record { passed = omega (arith, nodes_none); shapes = none; word = ap (λ v. take from w ++ v) (word_made []) ∙ append-nil (take from w) })

pub read_next : (cs : List Coordinate) (c : Coordinate) (w : List ℕ) (from at last d : ℕ) (done es new : List Entry) → IsRead cs w from at done → at < length w
    → last ≡ at + 1 + nodes_of (arguments_of c) → HaveShapes (arguments_of c) es → take (at + 1) w ++ word_of (pair_tree es) ≡ take last w
    → new ≡ done ++ entry (slice_index_or w at d) (pair_tree es) ∷ [] → IsRead (cs ++ c ∷ []) w from last new
read_next cs c w from at last d done es new r l passed shapes word is = record {
  passed = omega (arith, r.passed, passed, nodes_append cs (c ∷ []), nodes_more c [], nodes_none);
  shapes = subst (HaveShapes (cs ++ c ∷ [])) (sym is) (shapes_append c e r.shapes (subst (HasShape (arguments_of c)) (sym (entry_args place (pair_tree es))) (shape (subst (HaveShapes (arguments_of c)) (sym (tree_entries es)) shapes))));
  word = ap (λ v. take from w ++ v) made ∙ sym (append_assoc (take from w) (word_of (pair_tree done)) (place ∷ word_of (pair_tree es)))
      ∙ ap (λ v. v ++ place ∷ word_of (pair_tree es)) r.word ∙ sym (append_assoc (take at w) (place ∷ []) (word_of (pair_tree es)))
      ∙ ap (λ v. v ++ word_of (pair_tree es)) (sym (take_more w at d l)) ∙ word;
}
  where
    place : ℕ
    place = slice_index_or w at d

    e : Entry
    e = entry place (pair_tree es)

    made : word_of (pair_tree new) ≡ word_of (pair_tree done) ++ place ∷ word_of (pair_tree es)
    made = ap (λ es. word_of (pair_tree es)) is ∙ word_made (done ++ e ∷ []) ∙ words_append done e
        ∙ ap₂ ◌++◌ (sym (word_made done)) (ap₂ ◌∷◌ (entry_place place (pair_tree es)) (ap word_of (entry_args place (pair_tree es))))

-- the nodes of the rest of a list
pub nodes_drop : (cs : List Coordinate) (i : ℕ) (d : Coordinate) → i < length cs → nodes_of (drop i cs) ≡ 1 + nodes_of (arguments_of (slice_index_or cs i d)) + nodes_of (drop (i + 1) cs)
nodes_drop cs i d l = ap nodes_of (drop_more cs i d l) ∙ nodes_more (slice_index_or cs i d) (drop (i + 1) cs)

pub ruleset letters_steps = (nodes_none, nodes_drop)

-- there are letters for the next coordinate and its arguments
pub room : (cs : List Coordinate) (w : List ℕ) (from at i : ℕ) (done : List Entry) (c : Coordinate) (arguments : List Coordinate) → IsRead (take i cs) w from at done → from + nodes_of cs ≤ length w → i < length cs
    → c ≡ slice_index_or cs i c → arguments ≡ arguments_of c → at + 1 + nodes_of arguments ≤ length w
room cs w from at i done c arguments r enough l item same =
    let split : nodes_of cs ≡ nodes_of (take i cs) + nodes_of (drop i cs) = ap nodes_of (sym (take-append-drop i cs)) ∙ nodes_append (take i cs) (drop i cs) in
    let here : nodes_of arguments ≡ nodes_of (arguments_of (slice_index_or cs i c)) = ap nodes_of (same ∙ ap arguments_of item) in
    omega (arith, split, here, nodes_drop cs i c l, r.passed, enough)

pub one_letter : (at m n : ℕ) → at + 1 + m ≤ n → at < n
one_letter at m n l = omega (arith, l)

pub read_step : (cs : List Coordinate) (w : List ℕ) (from at last i d : ℕ) (c : Coordinate) (arguments : List Coordinate) (done es new : List Entry) → IsRead (take i cs) w from at done → from + nodes_of cs ≤ length w → i < length cs
    → c ≡ slice_index_or cs i c → arguments ≡ arguments_of c → last ≡ at + 1 + nodes_of arguments → HaveShapes arguments es → take (at + 1) w ++ word_of (pair_tree es) ≡ take last w
    → new ≡ done ++ entry (slice_index_or w at d) (pair_tree es) ∷ [] → IsRead (take (i + 1) cs) w from last new
read_step cs w from at last i d c arguments done es new r enough l item same passed shapes word is =
    let below = one_letter at (nodes_of arguments) (length w) (room cs w from at i done c arguments r enough l item same) in
    subst (λ cs. IsRead cs w from last new) (ap (λ c. take i cs ++ c ∷ []) item ∙ sym (take_more cs i c l))
    (read_next (take i cs) c w from at last d done es new r below (passed ∙ ap (λ cs. at + 1 + nodes_of cs) same) (subst (λ cs. HaveShapes cs es) same shapes) word is)

pub too_few : (cs : List Coordinate) (letters left i : ℕ) (d : Coordinate) → letters + nodes_of (drop i cs) ≡ nodes_of cs + left → left ≡ 0 → i < length cs → letters < nodes_of cs
too_few cs letters left i d e z l = omega (arith, e, z, nodes_drop cs i d l)

pub made_shape : (cs a : List Coordinate) (es : List Entry) → cs ≡ a → HaveShapes cs es → HasShape a (pair_tree es)
made_shape cs a es same s = shape (subst (λ cs. HaveShapes cs (entries_of (pair_tree es))) same (subst (HaveShapes cs) (sym (tree_entries es)) s))
