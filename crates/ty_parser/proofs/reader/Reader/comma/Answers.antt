use Rattle.ty_parser.proofs.Pieces.{comma_none, comma_parens, comma_braces}
use Rattle.ty_parser.proofs.reader.Reader.comma.Goals as goal

pub returns-in-None : goal.returns-in-None
returns-in-None c = comma_none _ c.in-None.ensures.none.0 _ _ _

pub returns-in_ok-open-in-Some-Parens : goal.returns-in_ok-open-in-Some-Parens
returns-in_ok-open-in-Some-Parens c = comma_parens _ _ _ _ _ c.in-Some-Parens.ensures.popped c.in-Some-Parens.field-0-is _ _ c.in_ok-ty-in-Some-Parens.ensures.rest _ _ _ c.in_ok-ty-in-Some-Parens.ensures.ty _ _ _ c.in_ok-types-in-Some-Parens.ensures.last c.in_ok-types-in-Some-Parens.ensures.before c.in_ok-open-in-Some-Parens.ensures

pub returns-in_ok-fields-in-Some-Braces : goal.returns-in_ok-fields-in-Some-Braces
returns-in_ok-fields-in-Some-Braces c = comma_braces _ _ _ _ _ _ c.in-Some-Braces.ensures.popped c.in-Some-Braces.field-0-is _ _ c.in_ok-ty-in-Some-Braces.ensures.rest _ _ _ _ c.in_ok-ty-in-Some-Braces.ensures.ty _ c.in_ok-fields-in-Some-Braces.ensures.last c.in_ok-fields-in-Some-Braces.ensures.before
