use Rattle.type_intern.proofs.Firsts.{key_decides}
use Rattle.type_intern.proofs.laws.keys_decide.Goals as goal

pub returns : goal.returns
returns c = record { law = key_decides }
