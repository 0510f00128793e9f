use Rattle.std.proofs.Common.{arith}
use Rattle.ty_parser.proofs.Pieces.{depth_is}
use Rattle.ty_parser.proofs.reader.Reader.depth.Goals as goal

pub overflow_cast-result : goal.overflow_cast-result
overflow_cast-result c = let held = depth_is c.args.self.now.stage c.args.self.now in omega (arith, held, c.requires.small, c.len.ensures.value)

pub overflow_add-result : goal.overflow_add-result
overflow_add-result c = let held = depth_is c.args.self.now.stage c.args.self.now in omega (arith, held, c.requires.small, c.len.ensures.value, c.braces-more.ensures)

pub returns : goal.returns
returns c = let held = depth_is c.args.self.now.stage c.args.self.now in record { value = omega (arith, held, c.len.ensures.value, c.braces-more.ensures) }
