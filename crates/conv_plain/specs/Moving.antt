-- Moving terms of the coordinates of one type to those of another, along a pairing.
use Rattle.std.specs.Prelude.{ℕ, ◌+◌, ◌==◌, if◌then◌else◌, List, [], ◌∷◌, get_or, length}
use Rattle.type_core.specs.declared.ty.Ty.{Ty}
use Rattle.type_core.specs.declared.ty.Ty.TheVariants as ty
use Rattle.type_core.specs.declared.coordinate.Coordinate.{Coordinate}
use Rattle.type_core.specs.Coordinates.{arguments_of, coordinate}
use Rattle.iso_normal.specs.declared.pair_tree.PairTree.{PairTree}
use Rattle.iso_normal.specs.declared.pair_tree.Entry.{Entry}
use Rattle.iso_normal.specs.declared.pair_tree.Entry.TheOpen.{PairTree-F, Entry-F}
use Rattle.iso_normal.specs.declared.pair_tree.Entry.TheFolds.{fold-PairTree}
use Rattle.iso_normal.specs.PairTrees.{args_of, place_of}
use Rattle.conv_terms.specs.declared.term.Term.{Term}
use Rattle.conv_terms.specs.declared.term.Term.TheVariants as term
use Rattle.conv_terms.specs.Shifting.{shifted}
use Rattle.conv_plain.specs.Functions.{abstractions, applied, variables}
use Rattle.conv_plain.specs.CoordinateTypes.{types_of}

-- terms of some coordinates, made of terms of others, in a context of so many variables
abbrev pub Move : Type 0
Move = ℕ → List Term → List Term

-- fn (z1 : T1) => .. fn (zm : Tm) => e w1 .. wm, where w1 to wm are made of z1 to zm
abbrev pub carried : List Ty → Move → ℕ → Term → Term
carried types move n e = abstractions types (applied (shifted n (length types) e) (move (n + length types) (variables n (length types))))

-- for a pairing of two lists of coordinates: terms of the first made into terms of the second, and of the second
-- into terms of the first
pub record Moves : Type 0 where
  pub forth : List Coordinate → List Coordinate → Move
  pub back : List Coordinate → List Coordinate → Move

-- what stands where there is no term
abbrev pub no_term : Term
no_term = term.Tup []

-- what stands where there is no coordinate: it takes no arguments
abbrev pub no_coordinate : Coordinate
no_coordinate = coordinate [] (ty.Tup [])

-- the term for place k, whose coordinate is d: the term of the entry that has this place, which takes the arguments
-- of d and is applied to what they are moved back to
abbrev pub sent : ℕ → Coordinate → List (ℕ × Moves) → List Coordinate → ℕ → List Term → Term
sent k d [] cs n es = no_term
sent k d (entry ∷ entries) [] n es = no_term
sent k d (entry ∷ entries) (c ∷ cs) n [] = no_term
sent k d (entry ∷ entries) (c ∷ cs) n (e ∷ es) =
    if entry.0 == k then carried (types_of (arguments_of d)) ((entry.1).back (arguments_of c) (arguments_of d)) n e else sent k d entries cs n es

-- the terms for the places from k on, whose coordinates are these
abbrev pub sent_each : ℕ → List (ℕ × Moves) → List Coordinate → List Coordinate → Move
sent_each k entries cs [] n es = []
sent_each k entries cs (d ∷ ds) n es = sent k d entries cs n es ∷ sent_each (k + 1) entries cs ds n es

-- for each entry the term at its place, which takes the arguments of the entry's coordinate and is applied to what
-- they are moved to
abbrev pub brought_each : List (ℕ × Moves) → List Coordinate → List Coordinate → Move
brought_each [] cs ds n es = []
brought_each (entry ∷ entries) [] ds n es = []
brought_each (entry ∷ entries) (c ∷ cs) ds n es =
    carried (types_of (arguments_of c)) ((entry.1).forth (arguments_of c) (arguments_of (get_or ds entry.0 no_coordinate))) n (get_or es entry.0 no_term)
    ∷ brought_each entries cs ds n es

-- a place and a pairing's moves stand for each entry
abbrev pub moves_step : PairTree-F (ℕ × Moves) Moves → Moves
moves_step p = record { forth = λ cs ds. sent_each 0 p.entries cs ds; back = λ cs ds. brought_each p.entries cs ds }

abbrev pub moves_entry_step : Entry-F (ℕ × Moves) Moves → ℕ × Moves
moves_entry_step e = (e.place, e.args)

-- how the pairing moves terms there and back
unfoldable pub moves : PairTree → Moves
moves = fold-PairTree (ℕ × Moves) Moves moves_entry_step moves_step

-- an entry's place beside how its pairing of arguments moves terms
abbrev pub with_moves : Entry → ℕ × Moves
with_moves e = (place_of e, moves (args_of e))

-- terms for the coordinates cs, moved along the pairing of cs with ds: terms for ds
abbrev pub moved : PairTree → List Coordinate → List Coordinate → Move
moved p cs ds = (moves p).forth cs ds

-- terms for the coordinates ds, moved back along the pairing of cs with ds: terms for cs
abbrev pub moved_back : PairTree → List Coordinate → List Coordinate → Move
moved_back p cs ds = (moves p).back cs ds
