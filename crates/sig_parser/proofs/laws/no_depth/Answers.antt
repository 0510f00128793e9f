use Rattle.ty_parser.proofs.Stops.{no_depth}
use Rattle.sig_parser.specs.Files.{File}
use Rattle.sig_parser.proofs.laws.no_depth.Goals as goal

pub returns : goal.returns
returns c = record { law = λ ss j k stops shallow deep. no_depth File ss 0 j k stops.reaches shallow deep }
