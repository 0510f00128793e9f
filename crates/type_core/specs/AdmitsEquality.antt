-- Which types admit equality.
use Rattle.std.specs.Prelude.{Bool, true, false, IsTrue, List, Option, Some, None, slice_get}
use Rattle.type_core.specs.declared.names.Equality.{Equality}
use Rattle.type_core.specs.declared.names.Equality.TheVariants.{Never, IfArgs, Always}
use Rattle.type_core.specs.declared.names.TypeName.{TypeName}
use Rattle.type_core.specs.declared.ty.Ty.{Ty}
use Rattle.type_core.specs.declared.ty.Field.{Field}
use Rattle.type_core.specs.declared.ty.Ty.TheOpen.{Ty-F, Field-F, Var, Con, Rec, Tup, Arrow}
use Rattle.type_core.specs.declared.ty.Ty.TheFolds.{fold-Ty, fold-Field}
use Rattle.type_core.specs.Lists.{all_true}

-- whether an application admits equality, by the attribute of its name and whether each argument does
abbrev pub by_attribute : Equality → List Bool → Bool
by_attribute Never arguments = false
by_attribute IfArgs arguments = all_true arguments
by_attribute Always arguments = true

-- the attribute of a name: that of a name that there isn't is `Never`
abbrev pub attribute_of : Option TypeName → Equality
attribute_of None = Never
attribute_of (Some name) = name.equality

-- a variable where it has the mark, tuples and records where all their parts do, an arrow never
abbrev pub admits_step : List TypeName → Ty-F Bool Bool → Bool
admits_step names (Var v) = v.eq
admits_step names (Con name arguments) = by_attribute (attribute_of (slice_get names name.0)) arguments
admits_step names (Rec fields) = all_true fields
admits_step names (Tup components) = all_true components
admits_step names (Arrow from to) = false

abbrev pub admits_field_step : Field-F Bool Bool → Bool
admits_field_step field = field.ty

-- whether the type admits equality
abbrev pub admits_equality : List TypeName → Ty → Bool
admits_equality names = fold-Ty Bool Bool (admits_step names) admits_field_step

-- whether the field's type admits equality
abbrev pub field_admits_equality : List TypeName → Field → Bool
field_admits_equality names = fold-Field Bool Bool (admits_step names) admits_field_step

-- the type admits equality
abbrev pub AdmitsEquality : List TypeName → Ty → Type 0
AdmitsEquality names t = IsTrue (admits_equality names t)
