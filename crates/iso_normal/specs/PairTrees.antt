-- Pairings as trees: their places, words and inverses.
use Rattle.std.specs.Prelude.{ℕ, ◌+◌, ◌<◌, ◌==◌, if◌then◌else◌, List, [], ◌∷◌, length, map}
use Rattle.std.specs.List.{All, range_with_len}
use Rattle.type_core.specs.Lists.{concatenated}
use Rattle.type_core.specs.ValidLibrary.{AreDistinct}
use Rattle.iso_normal.specs.declared.pair_tree.PairTree.{PairTree}
use Rattle.iso_normal.specs.declared.pair_tree.Entry.{Entry}
use Rattle.iso_normal.specs.declared.pair_tree.Entry.TheOpen.{PairTree-F, Entry-F}
use Rattle.iso_normal.specs.declared.pair_tree.Entry.TheViews.{out-PairTree, roll-PairTree, out-Entry, roll-Entry}
use Rattle.iso_normal.specs.declared.pair_tree.Entry.TheFolds.{fold-PairTree}

-- the tree of these entries
abbrev pub pair_tree : List Entry → PairTree
pair_tree entries = roll-PairTree (record { entries = entries })

abbrev pub entries_of : PairTree → List Entry
entries_of p = (out-PairTree p).entries

-- the entry of this place and this pairing of arguments
abbrev pub entry : ℕ → PairTree → Entry
entry place args = roll-Entry (record { place = place; args = args })

abbrev pub place_of : Entry → ℕ
place_of e = (out-Entry e).place

abbrev pub args_of : Entry → PairTree
args_of e = (out-Entry e).args

-- the places, in the order of the entries
abbrev pub places_of : List Entry → List ℕ
places_of entries = map place_of entries

-- the numbers below the length of the list, each once
pub record IsPermutation (ks : List ℕ) : Type 0 where
  pub below : All (λ k. k < length ks) ks
  pub distinct : AreDistinct ks

mutual
  -- the places at each level are a permutation
  pub data IsPermuted : PairTree → Type 0 where
    level : {p : PairTree} → IsPermutation (places_of (entries_of p)) → ArePermuted (entries_of p) → IsPermuted p

  -- so are those in each entry's pairing of arguments
  pub data ArePermuted : List Entry → Type 0 where
    none : ArePermuted []
    more : {e : Entry} {entries : List Entry} → IsPermuted (args_of e) → ArePermuted entries → ArePermuted (e ∷ entries)

abbrev pub word_step : PairTree-F (List ℕ) (List ℕ) → List ℕ
word_step p = concatenated p.entries

abbrev pub word_entry_step : Entry-F (List ℕ) (List ℕ) → List ℕ
word_entry_step e = e.place ∷ e.args

-- the word of the pairing: for each entry in order the place, and then the word of the arguments
unfoldable pub word_of : PairTree → List ℕ
word_of = fold-PairTree (List ℕ) (List ℕ) word_entry_step word_step

-- an entry for the place k: the number of the first entry that stands at k, where numbers begin with i, and the
-- pairing beside it
abbrev pub standing_at : ℕ → ℕ → List (ℕ × PairTree) → Entry
standing_at k i [] = entry i (pair_tree [])
standing_at k i (e ∷ entries) = if e.0 == k then entry i e.1 else standing_at k (i + 1) entries

-- for each place the number of the entry that stands there, and the pairing beside it
abbrev pub turned_round : List (ℕ × PairTree) → PairTree
turned_round entries = pair_tree (map (λ k. standing_at k 0 entries) (range_with_len 0 (length entries)))

-- the inverse of the pairing: at place k stands i, where entry i has place k, with the inverse of its arguments
unfoldable pub inverse : PairTree → PairTree
inverse = fold-PairTree (ℕ × PairTree) PairTree (λ e. (e.place, e.args)) (λ p. turned_round p.entries)
