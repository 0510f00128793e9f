-- The nodes of factors, by which the search ends.
use Rattle.std.specs.Prelude.{ℕ, ◌+◌, ◌≤◌, List, [], ◌∷◌, map, take}
use Rattle.type_core.specs.Lists.{sum_of}
use Rattle.iso_normal.specs.declared.factor.Factor.{Factor}
use Rattle.iso_normal.specs.declared.factor.Factor.TheOpen.{Factor-F, Atom, Arr}
use Rattle.iso_normal.specs.declared.factor.Factor.TheFolds.{fold-Factor}
use Rattle.linear_match.specs.declared.search.Sorting.{Sorting}

-- an atom is one node, and an arrow is one and has those of its parts
abbrev pub count_step : Factor-F ℕ → ℕ
count_step (Atom t) = 1
count_step (Arr arguments results) = 1 + (sum_of arguments + sum_of results)

-- the nodes of a factor
unfoldable pub count : Factor → ℕ
count = fold-Factor ℕ count_step

-- the nodes of factors
abbrev pub counts : List Factor → ℕ
counts fs = sum_of (map count fs)

-- each of the lists has at most n nodes
abbrev pub AreWithin : ℕ → List (List Factor) → Type 0
AreWithin n [] = Unit {0}
AreWithin n (fs ∷ pieces) = (counts fs ≤ n) × AreWithin n pieces

-- the arguments that are sent have no more nodes than those before number `at`, and so have those that are kept
abbrev pub AreHeld : Sorting → ℕ → Type 0
AreHeld sorting at = (counts sorting.sent ≤ counts (take at sorting.arguments.now)) ×
    (counts sorting.kept ≤ counts (take at sorting.arguments.now))
