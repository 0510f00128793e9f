use Rattle.ty_parser.proofs.Pieces.{right_brace_none, right_brace_parens, right_brace_braces}
use Rattle.ty_parser.proofs.reader.Reader.right_brace.Goals as goal

pub returns-in-None : goal.returns-in-None
returns-in-None c = right_brace_none _ c.in-None.ensures.none.0 _ _ _

pub returns-in-Some-Parens : goal.returns-in-Some-Parens
returns-in-Some-Parens c = right_brace_parens _ _ _ _ _ c.in-Some-Parens.ensures.popped c.in-Some-Parens.field-0-is _ _ _

pub returns-in_ok-fields-in-Some-Braces : goal.returns-in_ok-fields-in-Some-Braces
returns-in_ok-fields-in-Some-Braces c = right_brace_braces _ _ _ _ _ _ c.in-Some-Braces.ensures.popped c.in-Some-Braces.field-0-is _ _ c.in_ok-ty-in-Some-Braces.ensures.rest _ _ _ _ c.in_ok-ty-in-Some-Braces.ensures.ty _ c.in_ok-all-in-Some-Braces.ensures.last c.in_ok-all-in-Some-Braces.ensures.before _ _ c.in_ok-fields-in-Some-Braces.ensures.taken c.in_ok-fields-in-Some-Braces.ensures.rest
