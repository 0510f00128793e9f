-- The variables of a type.
use Rattle.std.specs.Prelude.{ℕ, ◌+◌, ◌==◌, ◌&&◌, ◌||◌, Bool, true, false, not, if◌then◌else◌, List, [], ◌∷◌, ◌++◌}
use Rattle.type_core.specs.declared.ty.VarId.{VarId}
use Rattle.type_core.specs.declared.ty.Ty.{Ty}
use Rattle.type_core.specs.declared.ty.Field.{Field}
use Rattle.type_core.specs.declared.ty.Ty.TheOpen.{Ty-F, Var, Con, Rec, Tup, Arrow}
use Rattle.type_core.specs.declared.ty.Ty.TheFolds.{fold-Ty, fold-Field}
use Rattle.type_core.specs.Lists.{concatenated}

-- those of the parts, in order
abbrev pub variables_step : Ty-F (List VarId) (List VarId) → List VarId
variables_step (Var v) = v ∷ []
variables_step (Con name arguments) = concatenated arguments
variables_step (Rec fields) = concatenated fields
variables_step (Tup components) = concatenated components
variables_step (Arrow from to) = from ++ to

-- the variables of the type as they occur, from left to right
abbrev pub variables : Ty → List VarId
variables = fold-Ty (List VarId) (List VarId) variables_step (λ field. field.ty)

-- the variables of the field's type as they occur
abbrev pub field_variables : Field → List VarId
field_variables = fold-Field (List VarId) (List VarId) variables_step (λ field. field.ty)

-- whether both have the mark or neither has
abbrev pub same_mark : Bool → Bool → Bool
same_mark true mark = mark
same_mark false mark = not mark

-- whether the two are one variable: the same number and the same mark
abbrev pub same_variable : VarId → VarId → Bool
same_variable v w = (v.n == w.n) && same_mark v.eq w.eq

-- whether v is among them
abbrev pub occurs : VarId → List VarId → Bool
occurs v [] = false
occurs v (w ∷ ws) = same_variable v w || occurs v ws

-- how many stand before v; all of them, where v isn't among them
abbrev pub place : VarId → List VarId → ℕ
place v [] = 0
place v (w ∷ ws) = if same_variable v w then 0 else 1 + place v ws

-- those met before, and v at the end where it is new
abbrev pub meet : List VarId → VarId → List VarId
meet met v = if occurs v met then met else met ++ v ∷ []

-- those met before, and then those that are new, each where it first occurs
abbrev pub meet_all : List VarId → List VarId → List VarId
meet_all met [] = met
meet_all met (v ∷ vs) = meet_all (meet met v) vs

-- the variables of the type, each once, in the order in which they first occur
abbrev pub by_first_occurrence : Ty → List VarId
by_first_occurrence t = meet_all [] (variables t)
