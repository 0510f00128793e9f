use Rattle.sml_lexer.proofs.Laws.{tokens_at_their_places}
use Rattle.sml_lexer.proofs.token_laws.tokens_at_their_places.Goals as goal

pub returns : goal.returns
returns c = record { law = tokens_at_their_places }
