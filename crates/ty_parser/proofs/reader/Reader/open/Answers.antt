use Rattle.std.proofs.Common.{ap}
use Rattle.ty_parser.specs.machine.Machine.{Want}
use Rattle.ty_parser.proofs.Pieces.{opened_is}
use Rattle.ty_parser.proofs.reader.Reader.open.Goals as goal

pub returns : goal.returns
returns c = ap Want (opened_is _ _ _ _ _ _ c.in_ok-push.ensures.pushed c.fresh-self.ensures)
