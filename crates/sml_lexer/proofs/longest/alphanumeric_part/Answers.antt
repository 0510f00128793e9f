use Rattle.sml_lexer.proofs.Parts.{made_word, word_reserved}
use Rattle.sml_lexer.proofs.longest.alphanumeric_part.Goals as goal

pub returns-in-Some : goal.returns-in-Some
returns-in-Some c =
    let end = c.alphanumeric_end-end.ensures in
    word_reserved c.args.bytes.now c.args.at c.alphanumeric_end-end.result c.in-Some.field-0 end.within end.after c.requires.letter end.run end.whole c.in-Some.ensures

pub returns-in-None : goal.returns-in-None
returns-in-None c =
    let end = c.alphanumeric_end-end.ensures in
    made_word c.args.bytes.now c.args.at c.alphanumeric_end-end.result end.within end.after c.requires.letter end.run end.whole c.in-None.ensures
