use Rattle.std.proofs.Common.{◌&&◌, ◌==◌}
use Rattle.type_core.specs.declared.names.TypeName.{TypeName}
use Rattle.query_parser.specs.Constructors.{is_external}
use Rattle.query_parser.proofs.Searching.{IsSearched}
use Rattle.query_parser.proofs.constructors.external_of.Given as goal

abbrev pub invariant-loop-n : goal.invariant-loop-n
invariant-loop-n l = IsSearched (λ (name : TypeName). is_external l.path name && (name.arity == l.arity)) l.names l.n
