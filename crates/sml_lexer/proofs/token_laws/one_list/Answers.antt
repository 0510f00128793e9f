use Rattle.sml_lexer.proofs.Laws.{one_list}
use Rattle.sml_lexer.proofs.token_laws.one_list.Goals as goal

pub returns : goal.returns
returns c = record { law = one_list }
