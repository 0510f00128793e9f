use Rattle.std.proofs.Common.{◌≡◌, drop}
use Rattle.elab_types.specs.Finding.{none_of}
use Rattle.query_parser.specs.Constructors.{is_external}
use Rattle.query_parser.proofs.constructors.is_unknown.Given as goal

abbrev pub invariant-loop-name : goal.invariant-loop-name
invariant-loop-name l = none_of (is_external l.path) (drop l.name-index l.names) ≡ none_of (is_external l.path) l.names
