use Rattle.std.proofs.Common.{ap}
use Rattle.ty_parser.specs.machine.Machine.{Want}
use Rattle.ty_parser.proofs.Pieces.{with_side_is}
use Rattle.ty_parser.proofs.reader.Reader.with_side.Goals as goal

pub returns : goal.returns
returns c = ap Want (with_side_is c.args.self.now.around c.args.self.now.level c.args.self.now.types _ _ c.args.self.now.fields c.args.part _ _ c.in_ok-side.ensures.rest c.in_ok-side.ensures.ty c.in_ok-sides.ensures.last c.in_ok-sides.ensures.before)
