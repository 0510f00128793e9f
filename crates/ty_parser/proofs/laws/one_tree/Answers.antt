use Rattle.ty_parser.proofs.Types.{types}
use Rattle.ty_parser.proofs.Viable.{one_tree}
use Rattle.ty_parser.proofs.laws.one_tree.Goals as goal

pub returns : goal.returns
returns c = record { law = λ first ss e f d g. one_tree (types first) ss e f d g }
