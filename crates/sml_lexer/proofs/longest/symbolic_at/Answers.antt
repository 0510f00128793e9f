use Rattle.std.proofs.Common.{◌<◌, arith}
use Rattle.sig_base.specs.Identifiers.{IsSymbolicByte}
use Rattle.sml_lexer.specs.declared.token.TokenKind.TheVariants.{Reserved, Sym}
use Rattle.sml_lexer.proofs.Maximal.{symbol_longest}
use Rattle.sml_lexer.proofs.Runs.{text_led}
use Rattle.sml_lexer.proofs.longest.symbolic_at.Goals as goal

pub returns-in-Some : goal.returns-in-Some
returns-in-Some c =
    let end = c.symbolic_end-end.ensures in
    symbol_longest c.args.bytes.now c.args.at (Reserved c.in-Some.word) c.symbolic_end-end.result end.within end.after c.requires.symbol end.whole c.in-Some.ensures

pub returns-in-None : goal.returns-in-None
returns-in-None c =
    let end = c.symbolic_end-end.ensures in
    let begins : c.args.at < c.symbolic_end-end.result = omega (arith, end.after) in
    symbol_longest c.args.bytes.now c.args.at Sym c.symbolic_end-end.result end.within end.after c.requires.symbol end.whole
    (text_led IsSymbolicByte IsSymbolicByte c.args.bytes.now c.args.at c.symbolic_end-end.result end.within (record { begins = begins; head = c.requires.symbol; tail = end.run }), c.in-None.ensures)
