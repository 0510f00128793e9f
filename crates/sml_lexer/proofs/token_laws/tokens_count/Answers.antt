use Rattle.sml_lexer.proofs.Laws.{tokens_count}
use Rattle.sml_lexer.proofs.token_laws.tokens_count.Goals as goal

pub returns : goal.returns
returns c = record { law = tokens_count }
