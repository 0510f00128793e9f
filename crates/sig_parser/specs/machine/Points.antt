-- What the last token was, outside of types, with what was read in the same phrase.
use Rattle.std.specs.Prelude.{ℕ, List}
use Rattle.sig_parser.specs.declared.tree.Bind.{Bind}
use Rattle.sig_parser.specs.declared.tree.SigExp.{SigExp}
use Rattle.sig_parser.specs.declared.tree.ValDesc.{ValDesc}
use Rattle.sig_parser.specs.declared.tree.TypeDesc.{TypeDesc}
use Rattle.sig_parser.specs.declared.tree.DataDesc.{DataDesc}
use Rattle.sig_parser.specs.declared.tree.ConDesc.{ConDesc}
use Rattle.sig_parser.specs.declared.point.Group.{Group}
use Rattle.sig_parser.specs.declared.point.Shared.{Shared}
use Rattle.sig_parser.specs.machine.Goals.{Goal, Open}
use Rattle.sig_parser.specs.machine.Heads.{Headed}
use Rattle.sig_parser.specs.machine.Constructors.{Cons}
use Rattle.sig_parser.specs.machine.Owners.{Owner}

pub data Point : Type 0 where
  -- among top declarations or specifications
  Items : Point
  -- before the identifier of a binding, and after it
  WantId : Group → List Bind → Point
  HaveId : Group → List Bind → ℕ → Point
  -- after a binding
  Bound : Group → List Bind → Point
  -- before a signature expression, after an identifier that is one, and after one
  WantSig : Goal → Point
  HaveName : Goal → ℕ → Point
  HaveSig : Open → Point
  -- after `where`, by the number of that token, and after a part of it
  AfterWhere : Open → ℕ → Point
  HavePart : Open → Point
  -- after an `and` behind such a part
  AfterAnd : Open → ℕ → Point
  -- before the identifier of a value, after it, and after values
  WantVal : List ValDesc → Point
  HaveVal : List ValDesc → ℕ → Point
  Vals : List ValDesc → Point
  -- before parameters, before one in parentheses, and after one
  WantParams : Headed → Point
  WantParam : Headed → List ℕ → Point
  HaveParam : Headed → List ℕ → Point
  -- after parameters, and after the type constructor
  WantTycon : Headed → List ℕ → Point
  HaveTycon : Headed → List ℕ → ℕ → Point
  -- after type descriptions, and after those of an `eqtype`
  Types : List TypeDesc → Point
  Eqtypes : List TypeDesc → Point
  -- after the `=` of a datatype
  AfterEquals : List DataDesc → List ℕ → ℕ → Point
  -- before the type constructor that is replicated
  WantReplica : ℕ → Point
  -- before a constructor or an exception, after its identifier, and after constructors or exceptions
  WantCon : Cons → List ConDesc → Point
  HaveCon : Cons → List ConDesc → ℕ → Point
  HaveCons : Cons → List ConDesc → Point
  -- after datatypes
  Datatypes : List DataDesc → Point
  -- after two or more identifiers of signatures
  Includes : List SigExp → Point
  -- after `sharing`, and after `sharing type`
  AfterSharing : Point
  AfterSharingType : Point
  -- after the first that is shared, after `=`, and after two or more
  OneShared : Shared → ℕ → Point
  WantShared : Shared → List ℕ → Point
  HaveShared : Shared → List ℕ → Point
  -- before a type
  WantType : Owner → Point
