use Rattle.ty_parser.proofs.Stops.{one_stop}
use Rattle.sig_parser.specs.Files.{File}
use Rattle.sig_parser.proofs.laws.one_stop.Goals as goal

pub returns : goal.returns
returns c = record { law = one_stop File }
