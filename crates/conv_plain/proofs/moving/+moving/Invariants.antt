use Rattle.std.proofs.Common.{◌≡◌, ◌++◌, map, drop}
use Rattle.iso_normal.specs.PairTrees.{entries_of}
use Rattle.conv_plain.specs.Moving.{brought_each, sent, sent_each, with_moves}
use Rattle.conv_plain.proofs.moving.+moving.Given as goal

abbrev pub invariant-moved-loop-one : goal.invariant-moved-loop-one
invariant-moved-loop-one l = (l.k ≡ l.one-index) × (l.done ++ sent_each l.k (map with_moves (entries_of l.p)) l.from (drop l.one-index l.to) l.n l.terms ≡ sent_each 0 (map with_moves (entries_of l.p)) l.from l.to l.n l.terms)

abbrev pub invariant-sent-loop-i : goal.invariant-sent-loop-i
invariant-sent-loop-i l = sent l.k l.at (map with_moves (drop l.i l.entries)) (drop l.i l.from) l.n (drop l.i l.terms) ≡ sent l.k l.at (map with_moves l.entries) l.from l.n l.terms

abbrev pub invariant-brought_each-loop-i : goal.invariant-brought_each-loop-i
invariant-brought_each-loop-i l = l.done ++ brought_each (map with_moves (drop l.i l.entries)) (drop l.i l.from) l.to l.n l.terms ≡ brought_each (map with_moves l.entries) l.from l.to l.n l.terms
