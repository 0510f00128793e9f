-- The marks of variables that are numbered in the order in which they are met.
use Rattle.std.specs.Prelude.{◌==◌, Bool, if◌then◌else◌, List, [], ◌∷◌, ◌++◌, length}
use Rattle.type_core.specs.declared.ty.VarId.{VarId}

-- the marks of the variables met before, and that of v where its number is the next
abbrev pub mark_met : List Bool → VarId → List Bool
mark_met met v = if v.n == length met then met ++ v.eq ∷ [] else met

-- the marks of the variables met before, and of these
abbrev pub marks_met : List Bool → List VarId → List Bool
marks_met met [] = met
marks_met met (v ∷ vs) = marks_met (mark_met met v) vs
