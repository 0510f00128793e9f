use Rattle.ty_parser.proofs.Stops.{one_depth}
use Rattle.sig_parser.specs.Files.{File}
use Rattle.sig_parser.proofs.laws.one_depth.Goals as goal

pub returns : goal.returns
returns c = record { law = λ ss. one_depth File ss 0 }
