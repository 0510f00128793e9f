use Rattle.ty_parser.proofs.Viable.{one_tree}
use Rattle.sig_parser.proofs.Files.{files}
use Rattle.sig_parser.proofs.laws.one_tree.Goals as goal

pub returns : goal.returns
returns c = one_tree files
