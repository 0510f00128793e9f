-- The parts of trees of pairings, made and taken apart.
use Rattle.std.proofs.Common.{◌≡◌, ℕ, List, ap}
use Rattle.iso_normal.specs.declared.pair_tree.PairTree.{PairTree}
use Rattle.iso_normal.specs.declared.pair_tree.Entry.{Entry}
use Rattle.iso_normal.specs.declared.pair_tree.Entry.TheOpen.{PairTree-F, Entry-F}
use Rattle.iso_normal.specs.declared.pair_tree.Entry.TheViews.{out-roll-PairTree, out-roll-Entry, roll-out-PairTree, roll-out-Entry}
use Rattle.iso_normal.specs.PairTrees.{args_of, entries_of, entry, pair_tree, place_of}

pub entry_place : (k : ℕ) (p : PairTree) → place_of (entry k p) ≡ k
entry_place k p = ap (λ (e : Entry-F Entry PairTree). e.place) (out-roll-Entry _)

pub entry_args : (k : ℕ) (p : PairTree) → args_of (entry k p) ≡ p
entry_args k p = ap (λ (e : Entry-F Entry PairTree). e.args) (out-roll-Entry _)

pub tree_entries : (es : List Entry) → entries_of (pair_tree es) ≡ es
tree_entries es = ap (λ (p : PairTree-F Entry PairTree). p.entries) (out-roll-PairTree _)

pub entry_whole : (e : Entry) → entry (place_of e) (args_of e) ≡ e
entry_whole e = roll-out-Entry e

pub tree_whole : (p : PairTree) → pair_tree (entries_of p) ≡ p
tree_whole p = roll-out-PairTree p
