-- What is a type, and what is a type over given names.
use Rattle.std.specs.Prelude.{ℕ, ◌&&◌, Bool, true, false, not, IsTrue, List, Option, Some, None, length, map, nat_eq, slice_get}
use Rattle.type_core.specs.declared.names.TypeName.{TypeName}
use Rattle.type_core.specs.declared.ty.Ty.{Ty}
use Rattle.type_core.specs.declared.ty.Ty.TheOpen.{Ty-F, Field-F, Var, Con, Rec, Tup, Arrow}
use Rattle.type_core.specs.declared.ty.Ty.TheFolds.{fold-Ty}
use Rattle.type_core.specs.Labels.{are_record_labels}
use Rattle.type_core.specs.Lists.{all_true}

-- no tuple has exactly one component, and each record has labels that a record may have; a field is here its
-- label, and whether its type is one
abbrev pub type_step : Ty-F Bool (List ℕ × Bool) → Bool
type_step (Var v) = true
type_step (Con name arguments) = all_true arguments
type_step (Rec fields) = are_record_labels (map (λ field. field.0) fields) && all_true (map (λ field. field.1) fields)
type_step (Tup components) = not (nat_eq (length components) 1) && all_true components
type_step (Arrow from to) = from && to

abbrev pub type_field_step : Field-F Bool (List ℕ × Bool) → List ℕ × Bool
type_field_step field = (field.label, field.ty)

-- whether the tree is a type
unfoldable pub is_type : Ty → Bool
is_type = fold-Ty Bool (List ℕ × Bool) type_step type_field_step

-- whether there is such a name, and it takes so many arguments
abbrev pub takes : Option TypeName → ℕ → Bool
takes None count = false
takes (Some name) count = nat_eq name.arity count

-- each application is of one of the names, to as many arguments as it takes
abbrev pub over_step : List TypeName → Ty-F Bool Bool → Bool
over_step names (Var v) = true
over_step names (Con name arguments) = takes (slice_get names name.0) (length arguments) && all_true arguments
over_step names (Rec fields) = all_true fields
over_step names (Tup components) = all_true components
over_step names (Arrow from to) = from && to

abbrev pub over_field_step : Field-F Bool Bool → Bool
over_field_step field = field.ty

-- whether the tree is over these names
unfoldable pub is_over : List TypeName → Ty → Bool
is_over names = fold-Ty Bool Bool (over_step names) over_field_step

-- the tree is a type: no tuple in it has one component; each record has a field, its labels are distinct and
-- in label order, and they are not exactly 1 to n with n at least 2
abbrev pub IsType : Ty → Type 0
IsType t = IsTrue (is_type t)

-- each name in the tree has a number below the number of these names, and as many arguments as its arity
abbrev pub IsOver : List TypeName → Ty → Type 0
IsOver names t = IsTrue (is_over names t)

-- a type over these names
pub record IsTypeOver (names : List TypeName) (t : Ty) : Type 0 where
  pub is_type : IsType t
  pub over : IsOver names t
