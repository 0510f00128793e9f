-- Types and type functions that are sound over names.
use Rattle.std.specs.Prelude.{◌≤◌, List}
use Rattle.std.specs.List.{All}
use Rattle.type_core.specs.declared.names.TypeName.{TypeName}
use Rattle.type_core.specs.declared.ty.Ty.{Ty}
use Rattle.type_core.specs.declared.type_fn.TypeFn.{TypeFn}
use Rattle.type_core.specs.TypeFunctions.{IsTypeFn}
use Rattle.type_core.specs.Types.{IsTypeOver}
use Rattle.type_core.specs.ValidLibrary.{IsLabel, IsWithinLimits}
use Rattle.type_core.specs.Weight.{labels_of}

-- a type over these names whose labels are spelled as labels are
pub record IsSoundType (names : List TypeName) (t : Ty) : Type 0 where
  pub over : IsTypeOver names t
  pub labels : All IsLabel (labels_of t)

-- a type function whose body is a type over these names, within the limits
pub record IsSoundFunction (names : List TypeName) (f : TypeFn) : Type 0 where
  pub arity : f.arity ≤ 1999
  pub function : IsTypeFn f
  pub body : IsSoundType names f.body
  pub limits : IsWithinLimits f.body
