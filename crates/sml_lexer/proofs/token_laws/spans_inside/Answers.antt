use Rattle.sml_lexer.proofs.Laws.{spans_inside}
use Rattle.sml_lexer.proofs.token_laws.spans_inside.Goals as goal

pub returns : goal.returns
returns c = record { law = spans_inside }
