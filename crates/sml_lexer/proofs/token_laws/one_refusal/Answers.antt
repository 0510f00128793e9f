use Rattle.sml_lexer.proofs.Laws.{one_refusal}
use Rattle.sml_lexer.proofs.token_laws.one_refusal.Goals as goal

pub returns : goal.returns
returns c = record { law = one_refusal }
