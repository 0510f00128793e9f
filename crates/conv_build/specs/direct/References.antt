-- References and holes: what stands for the terms that are split, moved and joined, where a long form is built.
use Rattle.std.specs.Prelude.{ℕ, ◌+◌, List, [], ◌∷◌, ◌++◌, length, zero, suc}
use Rattle.type_core.specs.declared.ty.Ty.{Ty}
use Rattle.type_core.specs.declared.ty.Ty.TheVariants as ty
use Rattle.type_core.specs.Coordinates.{coordinates}
use Rattle.conv_terms.specs.declared.term.Term.{Term}
use Rattle.conv_terms.specs.declared.term.Term.TheVariants as term

-- the coordinate at a place among those of a variable's type, for the variable of a level
pub record Reference : Type 0 where
  pub level : ℕ
  pub type : Ty
  pub place : ℕ

-- the reference to the coordinate at a place of the variable of this level and type
abbrev pub referring : ℕ → Ty → ℕ → Reference
referring level type place = record { level = level; type = type; place = place }

-- so many coordinates of the variable, from a place on
abbrev pub references_from : ℕ → Ty → ℕ → ℕ → List Reference
references_from level type place zero = []
references_from level type place (suc count) =
    referring level type place ∷ references_from level type (place + 1) count

-- the coordinates of the variable of this level and type
abbrev pub references : ℕ → Ty → List Reference
references level type = references_from level type 0 (length (coordinates type))

-- a term for a coordinate at its arguments, in a context of so many variables; references stand for the arguments
abbrev pub Hole : Type 0
Hole = ℕ → List Reference → Term

-- the hole at these arguments and those that follow
abbrev pub given : List Reference → Hole → Hole
given first hole n others = hole n (first ++ others)

-- the first hole's term at no arguments, () where there is no hole
abbrev pub first_filled : List Hole → ℕ → Term
first_filled [] n = term.Tup []
first_filled (hole ∷ holes) n = hole n []

-- what stands where there is no hole
abbrev pub no_hole : Hole
no_hole n arguments = term.Var 0

-- what stands where there is no reference
abbrev pub no_reference : Reference
no_reference = record { level = 0; type = ty.Tup []; place = 0 }
