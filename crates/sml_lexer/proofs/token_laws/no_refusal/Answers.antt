use Rattle.sml_lexer.proofs.Laws.{no_refusal}
use Rattle.sml_lexer.proofs.token_laws.no_refusal.Goals as goal

pub returns : goal.returns
returns c = record { law = no_refusal }
