-- What a constructor that comes next is applied to.
use Rattle.std.specs.Prelude.{ℕ, List}
use Rattle.ty_parser.specs.declared.tree.TyExp.{TyExp}

pub data Operand : Type 0 where
  -- a type variable, a record, or a type in parentheses
  Alone : TyExp → Operand
  -- arguments, and the constructors after them
  Applied : List TyExp → List ℕ → Operand
