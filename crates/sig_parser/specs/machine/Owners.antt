-- What a type is read for.
use Rattle.std.specs.Prelude.{ℕ, List}
use Rattle.sig_parser.specs.declared.tree.ValDesc.{ValDesc}
use Rattle.sig_parser.specs.declared.tree.TypeDesc.{TypeDesc}
use Rattle.sig_parser.specs.declared.tree.ConDesc.{ConDesc}
use Rattle.sig_parser.specs.machine.Goals.{Open}
use Rattle.sig_parser.specs.machine.Constructors.{Cons}

pub data Owner : Type 0 where
  -- a value: those before it, and its identifier
  Val : List ValDesc → ℕ → Owner
  -- a part of a `where`: the number of its first token, its parameters and its type constructor
  Where : Open → ℕ → List ℕ → ℕ → Owner
  -- a type description: those before it, its parameters and its identifier
  Abbrev : List TypeDesc → List ℕ → ℕ → Owner
  -- a constructor: those before it, and its identifier
  Con : Cons → List ConDesc → ℕ → Owner
