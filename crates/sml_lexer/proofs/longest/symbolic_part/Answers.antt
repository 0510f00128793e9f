use Rattle.std.proofs.Common.{◌<◌, arith}
use Rattle.sml_lexer.proofs.Parts.{made_symbol, symbol_reserved, no_part}
use Rattle.sml_lexer.proofs.longest.symbolic_part.Goals as goal

pub returns-then-end-at : goal.returns-then-end-at
returns-then-end-at c =
    let end = c.symbolic_end-end.ensures in
    no_part c.args.bytes.now c.args.at c.requires.no_letter (rw c.if-end-at.true at end.whole)

pub returns-in-Some : goal.returns-in-Some
returns-in-Some c =
    let end = c.symbolic_end-end.ensures in
    let after = end.after in
    let begins : c.args.at < c.symbolic_end-end.result = omega (arith, end.after, c.if-end-at.false) in
    symbol_reserved c.args.bytes.now c.args.at c.symbolic_end-end.result c.in-Some.field-0 end.within begins c.requires.no_letter end.run end.whole c.in-Some.ensures

pub returns-in-None : goal.returns-in-None
returns-in-None c =
    let end = c.symbolic_end-end.ensures in
    let begins : c.args.at < c.symbolic_end-end.result = omega (arith, end.after, c.if-end-at.false) in
    made_symbol c.args.bytes.now c.args.at c.symbolic_end-end.result end.within begins end.run end.whole c.in-None.ensures
