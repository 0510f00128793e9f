use Rattle.std.proofs.Common.{◌≡◌, drop}
use Rattle.query_parser.specs.Types.{constructed_all, constructed_on}
use Rattle.query_parser.specs.Views.{place_of}
use Rattle.query_parser.proofs.typing.constructed_all.Given as goal

abbrev pub invariant-loop-token : goal.invariant-loop-token
invariant-loop-token l = constructed_on (place_of l.place) l.t (drop l.token-index l.others) ≡ constructed_all (place_of l.place) l.fn.arguments l.constructors
