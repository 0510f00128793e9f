use Rattle.sml_lexer.proofs.Parts.{made_word, reserved_longest}
use Rattle.sml_lexer.proofs.longest.name_at.Goals as goal

pub long_at-requires : goal.long_at-requires
long_at-requires c =
    let end = c.alphanumeric_end-end.ensures in
    made_word c.args.bytes.now c.args.at c.alphanumeric_end-end.result end.within end.after c.requires.letter end.run end.whole c.in-None.ensures

pub returns-in-Some : goal.returns-in-Some
returns-in-Some c =
    let end = c.alphanumeric_end-end.ensures in
    reserved_longest c.args.bytes.now c.args.at c.alphanumeric_end-end.result c.in-Some.word end.within end.after c.requires.letter end.run end.whole c.in-Some.ensures
