use Rattle.std.proofs.lemmas.Bool.{iff_false}
use Rattle.sml_lexer.proofs.Marks.{dots_longest, mark_longest, no_mark}
use Rattle.sml_lexer.proofs.longest.mark_at.Goals as goal

pub returns-then-is_dots_at : goal.returns-then-is_dots_at
returns-then-is_dots_at c = dots_longest c.args.bytes.now c.args.at (c.is_dots_at.ensures.0 c.if-is_dots_at.true)

pub returns-in-Some : goal.returns-in-Some
returns-in-Some c =
    mark_longest c.args.bytes.now c.args.at c.requires.no_letter c.requires.no_symbol c.requires.no_prime c.requires.no_digit
    (iff_false c.is_dots_at.ensures c.if-is_dots_at.false) c.in-Some.word c.requires.within c.in-Some.ensures

pub returns-in-None : goal.returns-in-None
returns-in-None c =
    no_mark c.args.bytes.now c.args.at c.requires.no_letter c.requires.no_symbol c.requires.no_prime c.requires.no_digit
    (iff_false c.is_dots_at.ensures c.if-is_dots_at.false) c.in-None.ensures
