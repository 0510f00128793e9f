-- What constructors are read for.
use Rattle.std.specs.Prelude.{ℕ, List}
use Rattle.sig_parser.specs.declared.tree.DataDesc.{DataDesc}

pub data Cons : Type 0 where
  -- a datatype: those before it, its parameters and its identifier
  Datatype : List DataDesc → List ℕ → ℕ → Cons
  Exception : Cons
