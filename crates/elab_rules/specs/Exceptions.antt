-- Exception specifications.
use Rattle.std.specs.Prelude.{false, List, []}
use Rattle.sig_parser.specs.declared.tree.ConDesc.{ConDesc}
use Rattle.type_core.specs.declared.member.Kind.TheVariants.{Exn}
use Rattle.elab_rules.specs.Bodies.{Specified}
use Rattle.elab_rules.specs.Constructors.{Family, constructors_described}
use Rattle.elab_rules.specs.InitialEnvironment.{constant}
use Rattle.elab_rules.specs.Types.{Parameters}

-- exceptions make `exn`, and no variable may stand in them
abbrev pub exceptions : Family
exceptions = record { kind = Exn; made = constant 6; variables = Parameters false [] }

-- a specification of exceptions
abbrev pub exceptions_described : List ConDesc → Specified
exceptions_described cs = constructors_described cs exceptions
