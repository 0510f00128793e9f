use Rattle.std.proofs.Common.{arith}
use Rattle.sig_parser.proofs.Depths.{inside_is, outside_is}
use Rattle.sig_parser.proofs.point.Reading.depth.Goals as goal

pub overflow_cast-result : goal.overflow_cast-result
overflow_cast-result c = let held = inside_is c.args.self.now _ _ c.in-InType.is in omega (arith, held, c.requires.small, c.len.ensures.value)

pub depth-requires : goal.depth-requires
depth-requires c = let held = inside_is c.args.self.now _ _ c.in-InType.is in record { small = omega (arith, held, c.requires.small) }

pub overflow_add-result : goal.overflow_add-result
overflow_add-result c = let held = inside_is c.args.self.now _ _ c.in-InType.is in omega (arith, held, c.requires.small, c.len.ensures.value, c.depth.ensures.value)

pub returns-in-InType : goal.returns-in-InType
returns-in-InType c = let held = inside_is c.args.self.now _ _ c.in-InType.is in record { value = omega (arith, held, c.len.ensures.value, c.depth.ensures.value) }

pub overflow_cast-result-in_default : goal.overflow_cast-result-in_default
overflow_cast-result-in_default c = let held = outside_is c.args.self.now c.in_default.not-InType in omega (arith, held, c.requires.small, c.len-in_default.ensures.value)

pub overflow_add-result-in_default : goal.overflow_add-result-in_default
overflow_add-result-in_default c = let held = outside_is c.args.self.now c.in_default.not-InType in omega (arith, held, c.requires.small, c.len-in_default.ensures.value, c.parens.ensures)

pub returns-in_default : goal.returns-in_default
returns-in_default c = let held = outside_is c.args.self.now c.in_default.not-InType in record { value = omega (arith, held, c.len-in_default.ensures.value, c.parens.ensures) }
