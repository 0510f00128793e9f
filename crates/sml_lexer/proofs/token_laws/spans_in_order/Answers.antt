use Rattle.sml_lexer.proofs.Laws.{spans_in_order}
use Rattle.sml_lexer.proofs.token_laws.spans_in_order.Goals as goal

pub returns : goal.returns
returns c = record { law = spans_in_order }
