-- What parameters and the name of a type constructor are read for, with what was read before them.
use Rattle.std.specs.Prelude.{ℕ, List}
use Rattle.sig_parser.specs.declared.tree.TypeDesc.{TypeDesc}
use Rattle.sig_parser.specs.declared.tree.DataDesc.{DataDesc}
use Rattle.sig_parser.specs.machine.Goals.{Open}

pub data Headed : Type 0 where
  -- a part of a `where`, by the number of its first token
  Where : Open → ℕ → Headed
  Abbrev : List TypeDesc → Headed
  Eqtype : List TypeDesc → Headed
  Datatype : List DataDesc → Headed
