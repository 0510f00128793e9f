-- Equality of types as a test.
use Rattle.std.specs.Prelude.{◌==◌, ◌&&◌, Bool, true, false, List, [], ◌∷◌, bytes_eq}
use Rattle.type_core.specs.declared.ty.Ty.{Ty}
use Rattle.type_core.specs.declared.ty.Field.{Field}
use Rattle.type_core.specs.declared.ty.Ty.TheOpen.{Ty-F, Field-F, Var, Con, Rec, Tup, Arrow}
use Rattle.type_core.specs.declared.ty.Ty.TheViews.{out-Ty}
use Rattle.type_core.specs.declared.ty.Ty.TheFolds.{fold-Ty, fold-Field}
use Rattle.type_core.specs.Variables.{same_variable}

-- whether there are as many values as tests, and each value passes its test
abbrev pub all_pass : {A : Type 0} → List (A → Bool) → List A → Bool
all_pass [] [] = true
all_pass [] (x ∷ xs) = false
all_pass (test ∷ tests) [] = false
all_pass (test ∷ tests) (x ∷ xs) = test x && all_pass tests xs

-- for each part of one type stands the test whether a part of the other is the same
abbrev pub equal_step : Ty-F (Ty → Bool) (Field → Bool) → Ty-F Ty Field → Bool
equal_step (Var v) (Var w) = same_variable v w
equal_step (Con name tests) (Con other arguments) = (name.0 == other.0) && all_pass tests arguments
equal_step (Rec tests) (Rec fields) = all_pass tests fields
equal_step (Tup tests) (Tup components) = all_pass tests components
equal_step (Arrow from_test to_test) (Arrow from to) = from_test from && to_test to
equal_step _ _ = false

abbrev pub equal_types_step : Ty-F (Ty → Bool) (Field → Bool) → Ty → Bool
equal_types_step tests t = equal_step tests (out-Ty t)

abbrev pub equal_fields_step : Field-F (Ty → Bool) (Field → Bool) → Field → Bool
equal_fields_step test field = bytes_eq test.label field.label && test.ty field.ty

-- whether the two are one type
unfoldable pub types_equal : Ty → Ty → Bool
types_equal = fold-Ty (Ty → Bool) (Field → Bool) equal_types_step equal_fields_step

-- whether the two are one field
unfoldable pub fields_equal : Field → Field → Bool
fields_equal = fold-Field (Ty → Bool) (Field → Bool) equal_types_step equal_fields_step
