-- Holes for the coordinates of one type, made of references to those of another, along a pairing.
use Rattle.std.specs.Prelude.{ℕ, ◌+◌, ◌==◌, if◌then◌else◌, List, [], ◌∷◌, get_or, length, zero, suc}
use Rattle.iso_normal.specs.declared.pair_tree.PairTree.{PairTree}
use Rattle.iso_normal.specs.declared.pair_tree.Entry.{Entry}
use Rattle.iso_normal.specs.declared.pair_tree.Entry.TheOpen.{PairTree-F, Entry-F}
use Rattle.iso_normal.specs.declared.pair_tree.Entry.TheFolds.{fold-PairTree}
use Rattle.iso_normal.specs.PairTrees.{args_of, place_of}
use Rattle.conv_terms.specs.declared.term.Term.{Term}
use Rattle.conv_terms.specs.declared.term.Term.TheVariants as term
use Rattle.conv_build.specs.direct.References.{Hole, Reference, no_hole, no_reference}
use Rattle.conv_build.specs.direct.LongSides.{spine}

-- for a pairing of two lists of coordinates: references to the first made into holes for the second, and references
-- to the second into holes for the first
pub record HoleMoves : Type 0 where
  pub forth : List Reference → List Hole
  pub back : List Reference → List Hole

-- the coordinate that is referred to, in a context of so many variables, at arguments for which there are holes
abbrev pub referred : Reference → ℕ → List Hole → Term
referred r n holes = spine r.type r.place n (term.Var r.level) holes

-- the hole for place k: the reference of the entry that has this place, at its arguments, which are moved back
abbrev pub sent_hole : ℕ → List (ℕ × HoleMoves) → List Reference → Hole
sent_hole k [] references n arguments = no_hole n arguments
sent_hole k (entry ∷ entries) [] n arguments = no_hole n arguments
sent_hole k (entry ∷ entries) (r ∷ references) n arguments =
    if entry.0 == k then referred r n ((entry.1).back arguments) else sent_hole k entries references n arguments

-- the holes for so many places, from k on
abbrev pub sent_holes : ℕ → ℕ → List (ℕ × HoleMoves) → List Reference → List Hole
sent_holes k zero entries references = []
sent_holes k (suc count) entries references =
    sent_hole k entries references ∷ sent_holes (k + 1) count entries references

-- the hole for an entry: the reference at its place, at its arguments, which are moved forth
abbrev pub brought_hole : ℕ × HoleMoves → List Reference → Hole
brought_hole entry references n arguments =
    referred (get_or references entry.0 no_reference) n ((entry.1).forth arguments)

-- the holes for the entries
abbrev pub brought_holes : List (ℕ × HoleMoves) → List Reference → List Hole
brought_holes [] references = []
brought_holes (entry ∷ entries) references = brought_hole entry references ∷ brought_holes entries references

-- a place and a pairing's holes stand for each entry
abbrev pub hole_moves_step : PairTree-F (ℕ × HoleMoves) HoleMoves → HoleMoves
hole_moves_step p = record { forth = sent_holes 0 (length p.entries) p.entries; back = brought_holes p.entries }

abbrev pub hole_moves_entry_step : Entry-F (ℕ × HoleMoves) HoleMoves → ℕ × HoleMoves
hole_moves_entry_step e = (e.place, e.args)

-- how the pairing makes holes of references, there and back
unfoldable pub hole_moves : PairTree → HoleMoves
hole_moves = fold-PairTree (ℕ × HoleMoves) HoleMoves hole_moves_entry_step hole_moves_step

-- an entry's place beside how its pairing of arguments makes holes
abbrev pub with_hole_moves : Entry → ℕ × HoleMoves
with_hole_moves e = (place_of e, hole_moves (args_of e))
