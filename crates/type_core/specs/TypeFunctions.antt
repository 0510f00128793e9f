-- Type functions, and their application to types.
use Rattle.std.specs.Prelude.{false, IsTrue, List}
use Rattle.type_core.specs.declared.ty.Ty.{Ty}
use Rattle.type_core.specs.declared.type_fn.TypeFn.{TypeFn}
use Rattle.type_core.specs.Substitution.{allows, each_variable, substituted}

-- its parameters are the variables below its arity, without mark, and no other variable occurs in it
abbrev pub IsTypeFn : TypeFn → Type 0
IsTypeFn f = IsTrue (each_variable (allows f.arity false) f.body)

-- the body, with the argument of number n in place of the parameter of number n
abbrev pub applied : TypeFn → List Ty → Ty
applied f arguments = substituted arguments f.body
