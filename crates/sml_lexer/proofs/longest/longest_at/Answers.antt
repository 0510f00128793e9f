use Rattle.sml_lexer.proofs.Maximal.{variable_longest, numeral_longest}
use Rattle.sml_lexer.proofs.longest.longest_at.Goals as goal

pub returns-then-b-eq39 : goal.returns-then-b-eq39
returns-then-b-eq39 c =
    let end = c.alphanumeric_end.ensures in
    variable_longest c.args.bytes.now c.args.at c.alphanumeric_end.result end.within end.after c.if-b-eq39.true end.run end.whole

pub returns-then-b-le57 : goal.returns-then-b-le57
returns-then-b-le57 c =
    let end = c.digits_end.ensures in
    numeral_longest c.args.bytes.now c.args.at c.digits_end.result end.within end.after c.if-b-ge49.true c.if-b-le57.true end.run end.whole
