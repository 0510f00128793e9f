use Rattle.std.proofs.Common.{ap}
use Rattle.ty_parser.specs.machine.Machine.{Want}
use Rattle.ty_parser.proofs.Pieces.{with_part_is}
use Rattle.ty_parser.proofs.reader.Reader.with_part.Goals as goal

pub returns : goal.returns
returns c = ap Want (with_part_is c.args.self.now.around c.args.self.now.level c.args.self.now.types _ c.args.self.now.fields c.args.part _ c.in_ok-parts.ensures.last c.in_ok-parts.ensures.before)
