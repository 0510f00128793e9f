-- Long forms in two passes: where atoms stand in a type, and the term around the atoms' terms.
use Rattle.std.specs.Prelude.{ℕ, ◌+◌, ◌-◌, ltb, if◌then◌else◌, List, [], ◌∷◌, ◌++◌, drop, length, map, take}
use Rattle.type_core.specs.declared.ty.Ty.{Ty}
use Rattle.type_core.specs.declared.ty.Field.{Field}
use Rattle.type_core.specs.declared.ty.Ty.TheOpen.{Ty-F, Var, Con, Rec, Tup, Arrow}
use Rattle.type_core.specs.declared.ty.Ty.TheFolds.{para-Ty}
use Rattle.type_core.specs.Coordinates.{coordinates}
use Rattle.conv_terms.specs.declared.term.Term.{Term}
use Rattle.conv_terms.specs.declared.term.Term.TheVariants as term
use Rattle.conv_plain.specs.Functions.{first_of}
use Rattle.conv_build.specs.direct.References.{Hole, Reference, references}

-- where an atom stands: below so many binders, with these references for the arguments of its coordinate
pub record Leaf : Type 0 where
  pub depth : ℕ
  pub arguments : List Reference

-- the leaf with more arguments before its own
abbrev pub behind : List Reference → Leaf → Leaf
behind first leaf = record { depth = leaf.depth; arguments = first ++ leaf.arguments }

-- each hole's term at its leaf
abbrev pub filled : List Hole → List Leaf → List Term
filled [] leaves = []
filled (hole ∷ holes) [] = []
filled (hole ∷ holes) (leaf ∷ leaves) = hole leaf.depth leaf.arguments ∷ filled holes leaves

-- for a type: the leaves of what is joined in a context of so many variables, and what is joined of the leaves' terms;
-- the leaves of the arguments on the way to a place, and the coordinate at the place of a term, at those arguments
pub record Passes : Type 0 where
  pub leaves : ℕ → List Leaf
  pub built : List Term → Term
  pub way : ℕ → ℕ → List Leaf
  pub reached : ℕ → Term → List Term → Term

-- an atom is a leaf, and there is no argument on the way to it
abbrev pub atom_passes : Passes
atom_passes = record {
  leaves = λ n. record { depth = n; arguments = [] } ∷ [];
  built = first_of;
  way = λ place n. [];
  reached = λ place e terms. e;
}

abbrev pub leaves_each : List (Ty × Passes) → ℕ → List Leaf
leaves_each [] n = []
leaves_each (part ∷ parts) n = (part.1).leaves n ++ leaves_each parts n

abbrev pub built_each : List (Ty × Passes) → List Term → List Term
built_each [] terms = []
built_each (part ∷ parts) terms =
    (part.1).built (take (length (coordinates part.0)) terms)
    ∷ built_each parts (drop (length (coordinates part.0)) terms)

-- the place is one of a component
abbrev pub way_each : List (Ty × Passes) → ℕ → ℕ → List Leaf
way_each [] place n = []
way_each (part ∷ parts) place n =
    if ltb place (length (coordinates part.0)) then (part.1).way place n
    else way_each parts (place - length (coordinates part.0)) n

-- the component is projected from e, where components count from i on
abbrev pub reached_each : List (Ty × Passes) → ℕ → ℕ → ℕ → Term → List Term → Term
reached_each [] place i count e terms = e
reached_each (part ∷ parts) place i count e terms =
    if ltb place (length (coordinates part.0)) then (part.1).reached place (term.Proj i count e) terms
    else reached_each parts (place - length (coordinates part.0)) (i + 1) count e terms

-- the leaves of a function are those of its result, with the argument's coordinates before their own arguments
abbrev pub passes_step : Ty-F (Ty × Passes) (Field × Unit {0}) → Passes
passes_step (Var v) = atom_passes
passes_step (Con name arguments) = atom_passes
passes_step (Rec fields) = atom_passes
passes_step (Tup parts) = record {
  leaves = leaves_each parts;
  built = λ terms. term.Tup (built_each parts terms);
  way = way_each parts;
  reached = λ place e terms. reached_each parts place 1 (length parts) e terms;
}
passes_step (Arrow from to) =
    let count : ℕ = length (coordinates from.0) in
    record {
      leaves = λ n. map (behind (references n from.0)) ((to.1).leaves (n + 1));
      built = λ terms. term.Lam from.0 ((to.1).built terms);
      way = λ place n. (from.1).leaves n ++ (to.1).way place n;
      reached = λ place e terms.
          (to.1).reached place (term.App e ((from.1).built (take count terms))) (drop count terms);
    }

-- the two passes for the type
unfoldable pub passes : Ty → Passes
passes = para-Ty Passes (Unit {0}) passes_step (λ field. tt)

-- where the atoms of the type stand, in a context of so many variables
abbrev pub leaves : Ty → ℕ → List Leaf
leaves t = (passes t).leaves

-- the term of the type around these terms of its atoms
abbrev pub built : Ty → List Term → Term
built t = (passes t).built

-- where atoms stand in the arguments on the way to a place of the type, in a context of so many variables
abbrev pub way : Ty → ℕ → ℕ → List Leaf
way t = (passes t).way

-- the coordinate at the place of a term of the type, at arguments around these terms of their atoms
abbrev pub reached : Ty → ℕ → Term → List Term → Term
reached t = (passes t).reached

-- an atom below so many binders, with these references for its arguments
abbrev pub leaf : ℕ → List Reference → Leaf
leaf depth arguments = record { depth = depth; arguments = arguments }

-- the leaves of each of the types
abbrev pub leaves_all : List Ty → ℕ → List Leaf
leaves_all [] n = []
leaves_all (t ∷ ts) n = leaves t n ++ leaves_all ts n

-- terms of the types, each around the terms of its atoms
abbrev pub built_all : List Ty → List Term → List Term
built_all [] terms = []
built_all (t ∷ ts) terms = built t terms ∷ built_all ts (drop (length (coordinates t)) terms)

-- the terms that follow those of the atoms of the types
abbrev pub rest_all : List Ty → List Term → List Term
rest_all [] terms = terms
rest_all (t ∷ ts) terms = rest_all ts (drop (length (coordinates t)) terms)
