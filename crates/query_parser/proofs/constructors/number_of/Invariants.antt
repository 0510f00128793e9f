use Rattle.std.proofs.Common.{bytes_eq}
use Rattle.type_core.specs.declared.names.TypeName.{TypeName}
use Rattle.query_parser.proofs.Searching.{IsSearched}
use Rattle.query_parser.proofs.constructors.number_of.Given as goal

abbrev pub invariant-loop-n : goal.invariant-loop-n
invariant-loop-n l = IsSearched (λ (name : TypeName). bytes_eq l.path name.path) l.names l.n
