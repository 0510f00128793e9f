-- Types with their variables renamed, and equality of schemes up to the names of their variables.
use Rattle.std.specs.Prelude.{◌≡◌, IsTrue, List, Some, map, slice_get}
use Rattle.type_core.specs.declared.ty.VarId.{VarId}
use Rattle.type_core.specs.declared.ty.Scheme.{Scheme}
use Rattle.type_core.specs.declared.ty.Ty.{Ty}
use Rattle.type_core.specs.declared.ty.Ty.TheVariants as ty
use Rattle.type_core.specs.declared.ty.Field.{Field}
use Rattle.type_core.specs.declared.ty.Ty.TheOpen.{Ty-F, Field-F, Var, Con, Rec, Tup, Arrow}
use Rattle.type_core.specs.declared.ty.Ty.TheFolds.{fold-Ty, fold-Field}
use Rattle.type_core.specs.Variables.{variables, occurs}

-- a renaming sends variables to variables
abbrev pub Renaming : Type 0
Renaming = VarId → VarId

abbrev pub rename_step : Renaming → Ty-F Ty Field → Ty
rename_step r (Var v) = ty.Var (r v)
rename_step r (Con name arguments) = ty.Con name arguments
rename_step r (Rec fields) = ty.Rec fields
rename_step r (Tup components) = ty.Tup components
rename_step r (Arrow from to) = ty.Arrow from to

abbrev pub rename_field_step : Field-F Ty Field → Field
rename_field_step field = record { label = field.label; ty = field.ty }

-- the type with r of each variable in its stead
abbrev pub renamed : Renaming → Ty → Ty
renamed r = fold-Ty Ty Field (rename_step r) rename_field_step

-- the field with its type renamed
abbrev pub field_renamed : Renaming → Field → Field
field_renamed r = fold-Field Ty Field (rename_step r) rename_field_step

-- the variables that r gives for these
abbrev pub listed : Renaming → List VarId → List Ty
listed r = map (λ v. ty.Var (r v))

-- at the number of each variable of t stands the variable that r gives for it
abbrev pub Lists : Renaming → Ty → List Ty → Type 0
Lists r t by = (v : VarId) → IsTrue (occurs v (variables t)) → slice_get by v.n ≡ Some (ty.Var (r v))

-- no two of the variables go to one
abbrev pub IsOneToOne : Renaming → List VarId → Type 0
IsOneToOne r vs = (v w : VarId) → IsTrue (occurs v vs) → IsTrue (occurs w vs) → r v ≡ r w → v ≡ w

-- each of the variables keeps its mark
abbrev pub KeepsMarks : Renaming → List VarId → Type 0
KeepsMarks r vs = (v : VarId) → IsTrue (occurs v vs) → (r v).eq ≡ v.eq

-- r renames a to b, one variable to one
pub record Renames (r : Renaming) (a b : Ty) : Type 0 where
  pub one_to_one : IsOneToOne r (variables a)
  pub keeps_marks : KeepsMarks r (variables a)
  pub makes : renamed r a ≡ b

-- some renaming makes one scheme the other
abbrev pub AreEqualUpToNames : Scheme → Scheme → Type 0
AreEqualUpToNames a b = (r : Renaming) × Renames r a.body b.body
