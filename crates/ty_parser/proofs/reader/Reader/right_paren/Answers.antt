use Rattle.ty_parser.proofs.Pieces.{right_paren_none, right_paren_parens, right_paren_braces}
use Rattle.ty_parser.proofs.reader.Reader.right_paren.Goals as goal

pub returns-in-None : goal.returns-in-None
returns-in-None c = right_paren_none _ c.in-None.ensures.none.0 _ _ _

pub returns-in_ok-enclosed-in-Some-Parens : goal.returns-in_ok-enclosed-in-Some-Parens
returns-in_ok-enclosed-in-Some-Parens c = right_paren_parens _ _ _ _ _ c.in-Some-Parens.ensures.popped c.in-Some-Parens.field-0-is _ _ c.in_ok-ty-in-Some-Parens.ensures.rest _ _ _ c.in_ok-ty-in-Some-Parens.ensures.ty _ c.in_ok-enclosed-in-Some-Parens.ensures

pub returns-in-Some-Braces : goal.returns-in-Some-Braces
returns-in-Some-Braces c = right_paren_braces _ _ _ _ _ _ c.in-Some-Braces.ensures.popped c.in-Some-Braces.field-0-is _ _ _
