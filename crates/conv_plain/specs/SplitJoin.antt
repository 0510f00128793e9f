-- Splitting a term into terms for the coordinates of its type, and joining such terms.
use Rattle.std.specs.Prelude.{ℕ, ◌+◌, List, [], ◌∷◌, ◌++◌, drop, length, map, take}
use Rattle.type_core.specs.declared.ty.Ty.{Ty}
use Rattle.type_core.specs.declared.ty.Field.{Field}
use Rattle.type_core.specs.declared.ty.Ty.TheOpen.{Ty-F, Var, Con, Rec, Tup, Arrow}
use Rattle.type_core.specs.declared.ty.Ty.TheFolds.{para-Ty}
use Rattle.conv_terms.specs.declared.term.Term.{Term}
use Rattle.conv_terms.specs.declared.term.Term.TheVariants as term
use Rattle.conv_terms.specs.Shifting.{shifted}
use Rattle.conv_plain.specs.Functions.{abstractions, applied, first_of, variables}
use Rattle.conv_plain.specs.CoordinateTypes.{coordinate_types}

-- for a type, in a context of so many variables: a term of the type split, and such terms joined
pub record Sides : Type 0 where
  pub split : ℕ → Term → List Term
  pub join : ℕ → List Term → Term

-- a term of an atom's type is its one coordinate
abbrev pub atom_sides : Sides
atom_sides = record { split = λ n e. e ∷ []; join = λ n es. first_of es }

-- e has a tuple type of so many components: the terms of component i, and those of the components after it
abbrev pub split_each : List (Ty × Sides) → ℕ → ℕ → ℕ → Term → List Term
split_each [] n i count e = []
split_each (part ∷ parts) n i count e = (part.1).split n (term.Proj i count e) ++ split_each parts n (i + 1) count e

-- consecutive pieces of the terms, joined, one for each component
abbrev pub join_each : List (Ty × Sides) → ℕ → List Term → List Term
join_each [] n es = []
join_each (part ∷ parts) n es = (part.1).join n (take (length (coordinate_types part.0)) es) ∷ join_each parts n (drop (length (coordinate_types part.0)) es)

-- each of the terms, below one binder more, applied to the arguments
abbrev pub applied_each : ℕ → List Term → List Term → List Term
applied_each n arguments [] = []
applied_each n arguments (e ∷ es) = applied (shifted n 1 e) arguments ∷ applied_each n arguments es

-- a tuple is split into its components, and joined from them; a function is applied to an argument that is joined
-- from variables, and it is joined from terms that are applied to what its argument is split into
abbrev pub sides_step : Ty-F (Ty × Sides) (Field × Unit {0}) → Sides
sides_step (Var v) = atom_sides
sides_step (Con name arguments) = atom_sides
sides_step (Rec fields) = atom_sides
sides_step (Tup parts) = record { split = λ n e. split_each parts n 1 (length parts) e; join = λ n es. term.Tup (join_each parts n es) }
sides_step (Arrow from to) =
    let types : List Ty = coordinate_types from.0 in
    record {
      split = λ n e. map (abstractions types) ((to.1).split (n + length types) (term.App (shifted n (length types) e) ((from.1).join (n + length types) (variables n (length types)))));
      join = λ n es. term.Lam from.0 ((to.1).join (n + 1) (applied_each n ((from.1).split (n + 1) (term.Var n)) es));
    }

-- how a term of the type is split, and how it is joined
unfoldable pub sides : Ty → Sides
sides = para-Ty Sides (Unit {0}) sides_step (λ field. tt)

-- the terms of the coordinates of a term of the type, in a context of so many variables
abbrev pub split : Ty → ℕ → Term → List Term
split t = (sides t).split

-- the term of the type that has these terms for its coordinates, in a context of so many variables
abbrev pub join : Ty → ℕ → List Term → Term
join t = (sides t).join

-- the same over the components' types alone
abbrev pub split_all : List Ty → ℕ → ℕ → ℕ → Term → List Term
split_all [] n i count e = []
split_all (t ∷ ts) n i count e = split t n (term.Proj i count e) ++ split_all ts n (i + 1) count e

abbrev pub join_all : List Ty → ℕ → List Term → List Term
join_all [] n es = []
join_all (t ∷ ts) n es = join t n (take (length (coordinate_types t)) es) ∷ join_all ts n (drop (length (coordinate_types t)) es)
