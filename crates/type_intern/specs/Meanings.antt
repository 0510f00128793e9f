-- What the numbers of an arena mean.
use Rattle.std.specs.Prelude.{ℕ, List, []}
use Rattle.type_core.specs.declared.ty.Ty.{Ty}
use Rattle.type_core.specs.declared.coordinate.Coordinate.{Coordinate}
use Rattle.type_intern.specs.Numbering.{Grows, IsFirst}
use Rattle.type_intern.specs.Erasure.{as_is, erase}
use Rattle.type_intern.specs.Alike.{AreAlike, IsAlike}

-- a type's number is its place among the types, a coordinate's is its place among the coordinates, and a key's is the
-- place of a list of coordinates that has it
pub record Meanings : Type 0 where
  pub types : List Ty
  pub coords : List Coordinate
  pub keys : List (List Coordinate)

-- no number means anything
abbrev pub no_meanings : Meanings
no_meanings = record { types = []; coords = []; keys = [] }

-- each number of the first means the same in the second
pub record Keeps (old new : Meanings) : Type 0 where
  pub types : Grows old.types new.types
  pub coords : Grows old.coords new.coords
  pub keys : Grows old.keys new.keys

-- n is the number of the first coordinate that is equal to c as a nested multiset of arguments
abbrev pub IsCanonical : List Coordinate → Coordinate → ℕ → Type 0
IsCanonical coords c n = IsFirst (λ d. IsAlike as_is d c) coords n

-- n is the number of the first list that is equal to cs as a nested multiset, each variable being replaced by its mark
abbrev pub IsKey : List (List Coordinate) → List Coordinate → ℕ → Type 0
IsKey keys cs n = IsFirst (λ ds. AreAlike erase ds cs) keys n
