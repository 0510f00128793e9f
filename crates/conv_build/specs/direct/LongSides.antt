-- The long forms of what is joined, and of a coordinate of a term at its arguments.
use Rattle.std.specs.Prelude.{ℕ, ◌+◌, ◌-◌, ltb, if◌then◌else◌, List, [], ◌∷◌, drop, length, map, take}
use Rattle.type_core.specs.declared.ty.Ty.{Ty}
use Rattle.type_core.specs.declared.ty.Field.{Field}
use Rattle.type_core.specs.declared.ty.Ty.TheOpen.{Ty-F, Var, Con, Rec, Tup, Arrow}
use Rattle.type_core.specs.declared.ty.Ty.TheFolds.{para-Ty}
use Rattle.type_core.specs.Coordinates.{coordinates}
use Rattle.conv_terms.specs.declared.term.Term.{Term}
use Rattle.conv_terms.specs.declared.term.Term.TheVariants as term
use Rattle.conv_build.specs.direct.References.{Hole, first_filled, given, references}

-- for a type, in a context of so many variables: holes for the coordinates joined, and the coordinate at a place of a
-- term of the type, at arguments for which there are holes
pub record LongSides : Type 0 where
  pub joined : ℕ → List Hole → Term
  pub spine : ℕ → ℕ → Term → List Hole → Term

-- an atom is its one coordinate
abbrev pub atom_long_sides : LongSides
atom_long_sides = record { joined = λ n holes. first_filled holes n; spine = λ place n e holes. e }

-- consecutive pieces of the holes, joined, one for each component
abbrev pub joined_each : List (Ty × LongSides) → ℕ → List Hole → List Term
joined_each [] n holes = []
joined_each (part ∷ parts) n holes =
    (part.1).joined n (take (length (coordinates part.0)) holes)
    ∷ joined_each parts n (drop (length (coordinates part.0)) holes)

-- e has a tuple type of so many components: the coordinate at the place, where places count from component i on
abbrev pub spine_each : List (Ty × LongSides) → ℕ → ℕ → ℕ → ℕ → Term → List Hole → Term
spine_each [] place i count n e holes = e
spine_each (part ∷ parts) place i count n e holes =
    if ltb place (length (coordinates part.0)) then (part.1).spine place n (term.Proj i count e) holes
    else spine_each parts (place - length (coordinates part.0)) (i + 1) count n e holes

-- a tuple is joined from its components, and a place is one of a component, which is projected; a function is joined
-- where its argument's coordinates are given, and it is applied to what the first holes are joined to
abbrev pub long_sides_step : Ty-F (Ty × LongSides) (Field × Unit {0}) → LongSides
long_sides_step (Var v) = atom_long_sides
long_sides_step (Con name arguments) = atom_long_sides
long_sides_step (Rec fields) = atom_long_sides
long_sides_step (Tup parts) = record {
  joined = λ n holes. term.Tup (joined_each parts n holes);
  spine = λ place n e holes. spine_each parts place 1 (length parts) n e holes;
}
long_sides_step (Arrow from to) =
    let count : ℕ = length (coordinates from.0) in
    record {
      joined = λ n holes. term.Lam from.0 ((to.1).joined (n + 1) (map (given (references n from.0)) holes));
      spine = λ place n e holes.
          (to.1).spine place n (term.App e ((from.1).joined n (take count holes))) (drop count holes);
    }

-- the long forms for the type
unfoldable pub long_sides : Ty → LongSides
long_sides = para-Ty LongSides (Unit {0}) long_sides_step (λ field. tt)

-- the term of the type whose coordinates these holes are, in a context of so many variables
abbrev pub joined : Ty → ℕ → List Hole → Term
joined t = (long_sides t).joined

-- the coordinate at the place of a term of the type, at arguments for which there are holes, in a context of so many
-- variables
abbrev pub spine : Ty → ℕ → ℕ → Term → List Hole → Term
spine t = (long_sides t).spine
